-- The items of a module in another order: the module that `arrange` writes is `AnotherOrder`. Assumes nothing.
use Prim.Native.Nat.{ℕ, zero, suc, ◌+◌, ◌-◌, ◌≤◌, min}
use mathlib.Core.Path.{◌≡◌, refl, sym, ◌∙◌, ap, ap₂, subst}
use mathlib.Core.Bool.{Bool, true, false, ◌&&◌}
use mathlib.Core.List.Permᴰ
use mathlib.Core.List.{List, [], ◌∷◌, ◌++◌, map, append-nil, append_assoc}
use mathlib.Core.Logic.{◌⊎◌, inl, inr}
use native.Mathlib.Omega.{arith}
use lib.Dec.{leb, eqb}
use lib.ListN.{length, get_or, take, drop, length-append, get_or-append}
use lib.Seq.{get_or-take, get_or-drop, get_or-append-add, take_at, drop_at, length-take-le}
use borrow.Author.Tests.{le-leb, leb-true}
use Rattle.shape.specs.Shape.{pick}
use Rattle.shape.proofs.ShapeLaws.{and_both}
use Rattle.record_bytes.specs.Bytes.{word_at}
use Rattle.names.specs.Names.{stands, chain, names_end, name_places, name_bytes, names_of, item_places, item_bytes, items_of, same_bytes}
use Rattle.node.proofs.Open.{ModuleRecord, empty_or_record, module_parts, names_room, names_inside}
use Rattle.names.proofs.NameLaws.{chain_none}
use Rattle.meaning.specs.JoiningOrder.{times_in, AnotherOrder}
use Rattle.meaning.proofs.Permutation.{times_permuted}
use Rattle.reorder.specs.Order.{joined, arranged, Places}
use Rattle.reorder.proofs.SameAt.{SameAt, same_word, same_part}
use Rattle.reorder.proofs.Listing.{none_left}
use Rattle.reorder.proofs.Arranging.{Each, IsItem, items_at, item_room, whole_places}

-- The names of two modules that begin alike
module _ (m s : List ℕ) (h : ℕ) (same : SameAt m 0 s 0 h) (a : h ≤ length m) (b : h ≤ length s) where
  same_stands : (at : ℕ) → stands m at h ≡ stands s at h
  unfolding stands
  same_stands at = go (leb (at + 16) h) refl
    where
      go : (t : Bool) → leb (at + 16) h ≡ t → leb (at + 16) h && leb 16 (word_at m at) && leb (at + word_at m at) h ≡ leb (at + 16) h && leb 16 (word_at s at) && leb (at + word_at s at) h
      go true e =
          let l = leb-true (at + 16) h e in
          ap (λ (w : ℕ). leb (at + 16) h && leb 16 w && leb (at + w) h) (same_word m 0 s 0 h same at at at (omega arith) (omega arith) (omega arith))
      go false e = rw e refl

  -- a record that stands there lies within
  stood : (at : ℕ) → stands s at h ≡ true → (at + 16 ≤ h) × (16 ≤ word_at s at) × (at + word_at s at ≤ h)
  unfolding stands
  stood at e =
      let x = and_both (leb (at + 16) h && leb 16 (word_at s at)) (leb (at + word_at s at) h) e in
      let y = and_both (leb (at + 16) h) (leb 16 (word_at s at)) x.0 in
      (leb-true _ _ y.0, leb-true _ _ y.1, leb-true _ _ x.1)

  same_name : (at : ℕ) → stands s at h ≡ true → (word_at m at ≡ word_at s at) × (name_bytes m at ≡ name_bytes s at)
  unfolding name_bytes
  same_name at e =
      let l = stood at e in
      let w : word_at m at ≡ word_at s at = same_word m 0 s 0 h same at at at (omega arith) (omega arith) (omega (arith, l.0)) in
      let part = same_part m 0 s 0 h same (at + 16) (at + 16) (at + 16) (word_at s at - 16) (omega arith) (omega arith) (omega (arith, l.1, l.2)) (omega (arith, l.1, l.2)) (omega (arith, l.1, l.2)) in
      (w, ap (λ (x : ℕ). take (x - 16) (drop (at + 16) m)) w ∙ part)

  pub same_names : (n at : ℕ) → map (name_bytes m) (chain n m at h) ≡ map (name_bytes s) (chain n s at h)
  unfolding chain
  same_names zero at = refl
  same_names (suc n) at = go (stands s at h) refl (same_names n)
    where
      go : (t : Bool) → stands s at h ≡ t → ((at : ℕ) → map (name_bytes m) (chain n m at h) ≡ map (name_bytes s) (chain n s at h))
          → map (name_bytes m) (pick (stands m at h) (at ∷ chain n m (at + word_at m at) h) []) ≡ map (name_bytes s) (pick (stands s at h) (at ∷ chain n s (at + word_at s at) h) [])
      go false e f = rw (same_stands at, e) refl
      go true e f =
          let l = same_name at e in
          rw (same_stands at, e) (ap₂ (λ x y. x ∷ y) l.1 (ap (λ (x : ℕ). map (name_bytes m) (chain n m (at + x) h)) l.0 ∙ f (at + word_at s at)))

-- An item at the seam of two parts of a text
module _ (s pre rest : List ℕ) (p : ℕ) (f : IsItem s p) where
  -- the text, and where its parts meet
  abbrev pub seam : List ℕ
  seam = pre ++ (item_bytes s p ++ rest)

  pub seam_same : SameAt seam (length pre) s p (word_at s p)
  unfolding item_bytes
  seam_same i h =
      let r = item_room s p f in
      get_or-append-add pre (item_bytes s p ++ rest) i 0 ∙ get_or-append (item_bytes s p) rest 0 i (omega (arith, r.2)) ∙ get_or-take (word_at s p) (drop p s) i 0 h ∙ get_or-drop p s i 0

  pub seam_word : word_at seam (length pre) ≡ word_at s p
  seam_word = same_word seam (length pre) s p (word_at s p) seam_same (length pre) p 0 (omega arith) (omega arith) (omega (arith, (item_room s p f).0))

  pub seam_length : length seam ≡ length pre + word_at s p + length rest
  seam_length = omega (arith, length-append pre (item_bytes s p ++ rest), length-append (item_bytes s p) rest, (item_room s p f).2)

  seam_stands : stands seam (length pre) (length seam) ≡ true
  unfolding stands
  seam_stands =
      let r = item_room s p f in
      let n = seam_length in
      let w = seam_word in
      simp (
        le-leb (length pre + 16) (length seam) (omega (arith, r.0)),
        le-leb 16 (word_at seam (length pre)) (omega (arith, r.0)),
        le-leb (length pre + word_at seam (length pre)) (length seam) (omega arith),
      )

  seam_bytes : item_bytes seam (length pre) ≡ item_bytes s p
  unfolding item_bytes
  seam_bytes =
      let r = item_room s p f in
      ap (λ (x : List ℕ). take (word_at seam (length pre)) x) (drop_at pre (item_bytes s p ++ rest) (length pre) refl)
      ∙ take_at (item_bytes s p) rest (word_at seam (length pre)) (r.2 ∙ sym seam_word)

  -- the next seam
  pub seam_next : seam ≡ pre ++ item_bytes s p ++ rest
  seam_next = sym (append_assoc pre (item_bytes s p) rest)

  pub seam_after : length (pre ++ item_bytes s p) ≡ length pre + word_at s p
  seam_after = length-append pre (item_bytes s p) ∙ omega (arith, (item_room s p f).2)

  seam_chain : (n : ℕ) → chain (suc n) seam (length pre) (length seam) ≡ length pre ∷ chain n seam (length (pre ++ item_bytes s p)) (length seam)
  unfolding chain
  seam_chain n =
      let e : length pre + word_at seam (length pre) ≡ length (pre ++ item_bytes s p) = omega (arith, seam_word, seam_after) in
      rw seam_stands (ap (λ (x : ℕ). length pre ∷ chain n seam x (length seam)) e)

no_bytes : (l : List ℕ) → length l ≡ 0 → l ≡ []
no_bytes [] e = refl
no_bytes (x ∷ l) e = absurd (omega (arith, e))

-- The items after the first part of a text
items_after : (s : List ℕ) (ps pre : List ℕ) (n : ℕ) → Each (IsItem s) ps → length (items_at s ps) ≤ n
    → map (item_bytes (pre ++ items_at s ps)) (chain n (pre ++ items_at s ps) (length pre) (length (pre ++ items_at s ps))) ≡ map (item_bytes s) ps
unfolding Each joined
items_after s [] pre n e h =
    let m = pre ++ [] in
    ap (map (item_bytes m)) (chain_none m n (length pre) (length m) (none_left m (length pre) (length m) (omega (arith, ap length (append-nil pre)))))
items_after s (p ∷ ps) pre zero e h =
    let r = item_room s p e.0 in
    absurd (omega (arith, length-append (item_bytes s p) (items_at s ps), r.0, r.2))
items_after s (p ∷ ps) pre (suc n) e h =
    let b = item_bytes s p in
    let rest = items_at s ps in
    let m = pre ++ (b ++ rest) in
    let r = item_room s p e.0 in
    let next = items_after s ps (pre ++ b) n e.1 (omega (arith, length-append b rest, r.0, r.2)) in
    ap (map (item_bytes m)) (seam_chain s pre rest p e.0 n)
    ∙ ap₂ (λ x y. x ∷ y) (seam_bytes s pre rest p e.0)
    (subst (λ (x : List ℕ). map (item_bytes x) (chain n x (length (pre ++ b)) (length x)) ≡ map (item_bytes s) ps) (append_assoc pre b rest) next)

-- The whole module in another order
module _ (s places : List ℕ) (p : Places s places) where
  -- what stands before the items
  abbrev pub start : List ℕ
  start = take (names_end s) s

  abbrev pub module' : List ℕ
  module' = start ++ items_at s places

  pub arranged_is : arranged s places ≡ module'
  unfolding arranged
  arranged_is = refl

  pub start_length_lem : length start ≡ names_end s
  start_length_lem = length-take-le (names_end s) s (names_inside s)

  pub new_length : length module' ≡ length s
  new_length = length-append start (items_at s places) ∙ omega (arith, start_length_lem, (whole_places s places p).fill)

  pub new_same : SameAt module' 0 s 0 (names_end s)
  new_same i h =
      let z : 0 + i ≡ i = omega arith in
      ap (λ (x : ℕ). get_or module' x 0) z ∙ get_or-append start (items_at s places) 0 i (omega (arith, start_length_lem)) ∙ get_or-take (names_end s) s i 0 h
      ∙ ap (λ (x : ℕ). get_or s x 0) (sym z)

  pub new_word : (at : ℕ) → at + 4 ≤ names_end s → word_at module' at ≡ word_at s at
  new_word at h = same_word module' 0 s 0 (names_end s) new_same at at at (omega arith) (omega arith) h

  -- Of a module record
  module _ (m : ModuleRecord s) where
    new_names_end : names_end module' ≡ names_end s
    unfolding names_end
    new_names_end =
        let n = names_room s m in
        let same : word_at module' 16 ≡ word_at s 16 = new_word 16 (omega (arith, n.low, n.end)) in
        omega (arith, same, new_length)

    new_items_end : min (word_at module' 0) (length module') ≡ length module'
    new_items_end =
        let n = names_room s m in
        omega (arith, new_word 0 (omega (arith, n.low, n.end)), new_length, (module_parts s m).whole)

    pub new_names : names_of module' ≡ names_of s
    unfolding names_of name_places
    new_names =
        (λ i. map (name_bytes module') (chain (new_length i) module' 32 (new_names_end i)))
        ∙ same_names module' s (names_end s) new_same (omega (arith, new_length, names_inside s)) (names_inside s) (length s) 32

    new_items : items_of module' ≡ map (item_bytes s) places
    unfolding items_of item_places
    new_items =
        let w = whole_places s places p in
        let from : names_end module' ≡ length start = new_names_end ∙ sym start_length_lem in
        (λ i. map (item_bytes module') (chain (length module') module' (from i) (new_items_end i)))
        ∙ items_after s places start (length module') w.each (omega (arith, new_length, w.fill))

    record_order : AnotherOrder s module'
    unfolding items_of
    record_order =
        record {
          names = sym new_names;
          items = λ bytes. times_permuted same_bytes bytes (Permᴰ.map (item_bytes s) p.order) ∙ ap (times_in same_bytes bytes) (sym new_items);
          empty = ap (λ (n : ℕ). eqb n 0) (sym new_length);
        }

  -- The file of no bytes stays so
  pub still_empty : s ≡ [] → arranged s places ≡ s
  still_empty e = no_bytes (arranged s places) (ap length arranged_is ∙ new_length ∙ ap length e) ∙ sym e

  pub new_order : AnotherOrder s (arranged s places)
  new_order = go (empty_or_record s p.layout)
    where
      go : (s ≡ []) ⊎ ModuleRecord s → AnotherOrder s (arranged s places)
      go (inl e) = subst (AnotherOrder s) (sym (still_empty e)) (record { names = refl; items = λ bytes. refl; empty = refl })
      go (inr m) = subst (AnotherOrder s) (sym arranged_is) (record_order m)
