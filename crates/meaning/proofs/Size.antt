-- A module without a layout fault is its head, its names and its items, and nothing else; or the file of no bytes.
-- So its length, and the places of its names, come from the bytes of the names and of the items.
use Prim.Native.Nat.{ℕ, zero, suc, ◌+◌, ◌-◌, ◌≤◌}
use mathlib.Core.Path.{◌≡◌, refl, sym, ◌∙◌, ap, ap₂, subst}
use mathlib.Core.Bool.{Bool, true, false, cond}
use mathlib.Core.List.{List, [], ◌∷◌, ◌++◌, map, head-eq_of_cons-eq, tail-eq_of_cons-eq}
use mathlib.Core.Logic.{◌⊎◌, inl, inr}
use native.Mathlib.Omega.{arith}
use lib.Dec.{eqb}
use lib.ListN.{length, drop, length-take, length-drop}
use borrow.Author.Tests.{lt-leb, eqb-true, eqb-false, ne_eqb}
use Rattle.shape.specs.Shape.{pick, a_names, a_name, an_item, shape_of, may_be, due_in}
use Rattle.shape.specs.declared.Holds.{Holds}
use Rattle.shape.specs.declared.Holds.TheVariants.{Items, Names}
use Rattle.shape.proofs.ShapeLaws.{kind_range}
use Rattle.record_bytes.specs.Bytes.{word_at}
use Rattle.names.specs.Names.{stands, chain, names_end, name_places, name_bytes, names_of, item_places, item_bytes, items_of, is_among, repeat_in, repeated_name}
use Rattle.layout.specs.Layout.{Good, kind_at, stop_at, is_empty_file, layout_of}
use Rattle.node.specs.Fine.{FineList, Opened}
use Rattle.std.proofs.Common.{Some}
use Rattle.node.proofs.Open.{opened, opened_kind, split_may, fine_stands}
use Rattle.node.proofs.Open.{ModuleRecord, empty_or_record, module_parts, names_room, names_end_none, items_list, item_chain}

-- The bytes of records
unfoldable pub total_length : List (List ℕ) → ℕ
total_length [] = 0
total_length (r ∷ l) = length r + total_length l

-- The bytes before the items: the head of the module, the head of the names, and each name with its own head
unfoldable pub names_length : List (List ℕ) → ℕ
names_length [] = 32
names_length (n ∷ names) = 16 + length n + names_length names

-- The file of no bytes has none
abbrev pub start_length : (is_empty : Bool) → (names : List (List ℕ)) → ℕ
start_length is_empty names = cond is_empty 0 (names_length names)

-- Records at these places follow each other from `at` to `end`
unfoldable pub Consecutive : List ℕ → (at end : ℕ) → (places : List ℕ) → Type 0
Consecutive s at end [] = at ≡ end
Consecutive s at end (p ∷ ps) = (p ≡ at) × (16 ≤ word_at s p) × (p + word_at s p ≤ length s) × Consecutive s (p + word_at s p) end ps

item_length : (s : List ℕ) (p : ℕ) → p + word_at s p ≤ length s → length (item_bytes s p) ≡ word_at s p
unfolding item_bytes
item_length s p h = omega (arith, length-take (word_at s p) (drop p s), length-drop p s)

name_length : (s : List ℕ) (p : ℕ) → 16 ≤ word_at s p → p + word_at s p ≤ length s → 16 + length (name_bytes s p) ≡ word_at s p
unfolding name_bytes
name_length s p l h = omega (arith, length-take (word_at s p - 16) (drop (p + 16) s), length-drop (p + 16) s)

items_length : (s : List ℕ) (at end : ℕ) (ps : List ℕ) → Consecutive s at end ps → at + total_length (map (item_bytes s) ps) ≡ end
unfolding Consecutive total_length
items_length s at end [] c = omega (arith, c)
items_length s at end (p ∷ ps) c = omega (arith, c.0, items_length s (p + word_at s p) end ps c.3, item_length s p c.2)

names_length_lem : (s : List ℕ) (at end : ℕ) (ps : List ℕ) → Consecutive s at end ps → at + names_length (map (name_bytes s) ps) ≡ end + 32
unfolding Consecutive names_length
names_length_lem s at end [] c = omega (arith, c)
names_length_lem s at end (p ∷ ps) c = omega (arith, c.0, names_length_lem s (p + word_at s p) end ps c.3, name_length s p c.1 c.2)

-- The places of names that follow each other from `at`
unfoldable places_from : (at : ℕ) → (names : List (List ℕ)) → List ℕ
places_from at [] = []
places_from at (n ∷ names) = at ∷ places_from (at + (16 + length n)) names

names_places : (s : List ℕ) (at end : ℕ) (ps : List ℕ) → Consecutive s at end ps → ps ≡ places_from at (map (name_bytes s) ps)
unfolding Consecutive places_from
names_places s at end [] c = refl
names_places s at end (p ∷ ps) c =
    let e : p + word_at s p ≡ at + (16 + length (name_bytes s p)) = omega (arith, c.0, name_length s p c.1 c.2) in
    ap₂ (λ x xs. x ∷ xs) c.0 (names_places s (p + word_at s p) end ps c.3 ∙ ap (λ x. places_from x (map (name_bytes s) ps)) e)

-- A list of any number of records of one class, without a fault: its records follow each other
none_stands : (s : List ℕ) (at end : ℕ) → at ≡ end → stands s at end ≡ false
unfolding stands
none_stands s at end e = rw (lt-leb (at + 16) end (omega arith))

follow : (s : List ℕ) (d : ℕ) (st : Holds) (c : ℕ) → due_in st ≡ may_be c st → (m at end : ℕ) → end - at ≤ m → FineList s d at end st
    → Consecutive s at end (chain m s at end)
unfolding Consecutive chain
follow s d st c due zero at end h l = let p = l.part.starts in omega arith
follow s d st c due (suc m) at end h l = go (eqb at end) refl (follow s d st c due m)
  where
    go : (b : Bool) → eqb at end ≡ b → ((at end : ℕ) → end - at ≤ m → FineList s d at end st → Consecutive s at end (chain m s at end))
        → Consecutive s at end (chain (suc m) s at end)
    go true t f = let e = eqb-true at end t in rw (none_stands s at end e) e
    go false t f =
        let r = split_may s d at end st c st due (eqb-false at end t) l in
        let o = opened s d at end c r.first in
        let b = o.body in
        let x = o.room in
        let y = o.ends in
        rw (fine_stands s d at end c r.first) (refl, omega arith, omega arith, f (stop_at s at) end (omega arith) r.rest)

-- The items of a whole module
pub items_follow : (s : List ℕ) → layout_of s ≡ Good → Consecutive s (names_end s) (length s) (item_places s)
unfolding due_in
items_follow s good =
    subst (Consecutive s (names_end s) (length s)) (sym (item_chain s good))
    (follow s 63 Items an_item refl (length s) (names_end s) (length s) (omega arith) (items_list s good))

items_size : (s : List ℕ) → layout_of s ≡ Good → names_end s + total_length (items_of s) ≡ length s
unfolding items_of
items_size s good = items_length s (names_end s) (length s) (item_places s) (items_follow s good)

-- The names of a module record
module _ (s : List ℕ) (m : ModuleRecord s) where
  names_kind : kind_at s 16 ≡ 2
  names_kind = let p = kind_range a_names 2 2 (kind_at s 16) refl (omega arith) (opened s 63 16 (length s) a_names (module_parts s m).names).belongs in omega arith

  names : Opened s 63 16 (length s) a_names 2 32 (stop_at s 16)
  unfolding shape_of
  names = opened_kind s 63 16 (length s) a_names 2 (module_parts s m).names names_kind

  names_follow : Consecutive s 32 (stop_at s 16) (name_places s)
  unfolding name_places due_in shape_of
  names_follow =
      subst (λ x. Consecutive s 32 (stop_at s 16) (chain (length s) s 32 x)) (sym (names_room s m).end)
      (follow s 62 Names a_name refl (length s) 32 (stop_at s 16) (omega (arith, names.room)) names.children)

  names_size : names_end s ≡ names_length (names_of s)
  unfolding names_of
  names_size = omega (arith, names_length_lem s 32 (stop_at s 16) (name_places s) names_follow, (names_room s m).end)

  names_from : name_places s ≡ places_from 32 (names_of s)
  unfolding names_of
  names_from = names_places s 32 (stop_at s 16) (name_places s) names_follow

-- The bytes before the items, and the places of the names, of a module that passes tests 1 to 3
start_size : (s : List ℕ) → layout_of s ≡ Good → names_end s ≡ start_length (is_empty_file s) (names_of s)
start_size s good = go (empty_or_record s good)
  where
    go : (s ≡ []) ⊎ ModuleRecord s → names_end s ≡ start_length (is_empty_file s) (names_of s)
    go (inl e) = subst (λ (x : List ℕ). names_end x ≡ start_length (is_empty_file x) (names_of x)) (sym e) names_end_none
    go (inr m) =
        let some : is_empty_file s ≡ false = ne_eqb (length s) 0 (λ (z : length s ≡ 0). omega (arith, m.some)) in
        names_size s m ∙ ap (λ (b : Bool). start_length b (names_of s)) (sym some)

good_places : (s : List ℕ) → layout_of s ≡ Good → name_places s ≡ places_from 32 (names_of s)
unfolding chain name_places names_of places_from
good_places s good = go (empty_or_record s good)
  where
    go : (s ≡ []) ⊎ ModuleRecord s → name_places s ≡ places_from 32 (names_of s)
    go (inl e) = subst (λ (x : List ℕ). name_places x ≡ places_from 32 (names_of x)) (sym e) refl
    go (inr m) = names_from s m

-- Its length
pub size : (m : List ℕ) → layout_of m ≡ Good → length m ≡ start_length (is_empty_file m) (names_of m) + total_length (items_of m)
size m good = sym (items_size m good) ∙ ap (λ (n : ℕ). n + total_length (items_of m)) (start_size m good)

-- Test 4 looks at the names' bytes and places only, and the places come from the bytes
same_repeat : (m k : List ℕ) (earlier : List (List ℕ)) (ps : List ℕ) → map (name_bytes m) ps ≡ map (name_bytes k) ps → repeat_in m earlier ps ≡ repeat_in k earlier ps
unfolding repeat_in
same_repeat m k earlier [] e = refl
same_repeat m k earlier (p ∷ ps) e =
    let same = head-eq_of_cons-eq e in
    ap₂ (λ n r. pick (is_among n earlier) (Some p) r) same
    (same_repeat m k (earlier ++ (name_bytes m p ∷ [])) ps (tail-eq_of_cons-eq e) ∙ ap (λ n. repeat_in k (earlier ++ (n ∷ [])) ps) same)

pub same_repeated : (m k : List ℕ) → layout_of m ≡ Good → layout_of k ≡ Good → names_of m ≡ names_of k → repeated_name m ≡ repeated_name k
unfolding repeated_name names_of
same_repeated m k a b e =
    let places : name_places m ≡ name_places k = good_places m a ∙ ap (places_from 32) e ∙ sym (good_places k b) in
    ap (repeat_in m []) places ∙ same_repeat m k [] (name_places k) (ap (map (name_bytes m)) (sym places) ∙ e)
