-- Names by their numbers: the number of a text is that of its name, and of no other where no name is repeated. Assumes nothing.
use Prim.Native.Nat.{ℕ, zero, suc, ◌+◌, ◌<◌}
use mathlib.Core.Path.{◌≡◌, refl, sym, ◌∙◌, ap}
use mathlib.Core.Bool.{Bool, true, false}
use mathlib.Core.List.{List, [], ◌∷◌, ◌++◌, map, map-append, append-nil, append_assoc}
use lib.ListN.{length, get_or, take, drop, length-map, length-take}
use lib.Seq.{split_at}
use native.Mathlib.Omega.{arith}
use Rattle.shape.specs.Shape.{pick}
use Rattle.names.specs.Names.{name_places, name_bytes, names_of, name_count, same_bytes, is_among, index_of, number_of, repeat_in, repeated_name}
use Rattle.std.proofs.Common.{Some, None}
use Rattle.names.proofs.NameLaws.{same_refl, same_true, index_past}

index_named : (t : List ℕ) (l : List (List ℕ)) → index_of t l < length l → get_or l (index_of t l) [] ≡ t
unfolding index_of
index_named t [] p = absurd (omega arith)
index_named t (n ∷ l) p = go (same_bytes n t) refl p (index_named t l)
  where
    go : (b : Bool) → same_bytes n t ≡ b → pick b 0 (1 + index_of t l) < suc (length l) → (index_of t l < length l → get_or l (index_of t l) [] ≡ t)
        → get_or (n ∷ l) (pick b 0 (1 + index_of t l)) [] ≡ t
    go true e q h = same_true n t e
    go false e q h =
        let m : 1 + index_of t l ≡ suc (index_of t l) = omega arith in
        ap (λ (m : ℕ). get_or (n ∷ l) m []) m ∙ h (omega arith)

-- the name that the number of a text has is that text
pub named : (s t : List ℕ) → number_of s t < name_count s → get_or (names_of s) (number_of s t) [] ≡ t
unfolding number_of name_count names_of
named s t p =
    let e = length-map (name_places s) (name_bytes s) in
    index_named t (map (name_bytes s) (name_places s)) (omega arith)

-- a name's bytes, by its number
map_at : (f : ℕ → List ℕ) (l : List ℕ) (i : ℕ) → i < length l → get_or (map f l) i [] ≡ f (get_or l i 0)
map_at f [] i p = absurd (omega arith)
map_at f (x ∷ l) zero p = refl
map_at f (x ∷ l) (suc i) p = map_at f l i (omega arith)

pub name_bytes_lem : (s : List ℕ) (i : ℕ) → i < name_count s → get_or (names_of s) i [] ≡ name_bytes s (get_or (name_places s) i 0)
unfolding name_count names_of
name_bytes_lem s i p = map_at (name_bytes s) (name_places s) i p

-- where no name is repeated, none is among those before it
none_before : (s : List ℕ) (ns : List (List ℕ)) (ps : List ℕ) → repeat_in s ns ps ≡ None → (i : ℕ) → i < length ps
    → is_among (name_bytes s (get_or ps i 0)) (ns ++ map (name_bytes s) (take i ps)) ≡ false
unfolding repeat_in
none_before s ns [] e i p = absurd (omega arith)
none_before s ns (x ∷ ps) e i p = go (is_among (name_bytes s x) ns) refl e i p (none_before s (ns ++ (name_bytes s x ∷ [])) ps)
  where
    go : (b : Bool) → is_among (name_bytes s x) ns ≡ b → pick b (Some x) (repeat_in s (ns ++ (name_bytes s x ∷ [])) ps) ≡ None → (i : ℕ) → i < suc (length ps)
        → (repeat_in s (ns ++ (name_bytes s x ∷ [])) ps ≡ None → (j : ℕ) → j < length ps → is_among (name_bytes s (get_or ps j 0)) ((ns ++ (name_bytes s x ∷ [])) ++ map (name_bytes s) (take j ps)) ≡ false)
        → is_among (name_bytes s (get_or (x ∷ ps) i 0)) (ns ++ map (name_bytes s) (take i (x ∷ ps))) ≡ false
    go true f g i p h = absurd (let z : ◌≡◌ {A = ℕ} 0 1 = cc in omega arith)
    go false f g zero p h = rw append-nil f
    go false f g (suc i) p h = rw append_assoc at (h g i (omega arith))

-- a name has the number of its text
pub number_of_name : (s t : List ℕ) (i : ℕ) → repeated_name s ≡ None → i < name_count s → get_or (names_of s) i [] ≡ t → number_of s t ≡ i
unfolding number_of name_count names_of repeated_name index_of
number_of_name s t i e p q =
    let l = name_places s in
    let n : t ≡ name_bytes s (get_or l i 0) = sym q ∙ name_bytes_lem s i p in
    let a : is_among t (map (name_bytes s) (take i l)) ≡ false = rw n (none_before s [] l e i p) in
    let r = map (name_bytes s) (drop (suc i) l) in
    let v : index_of t (map (name_bytes s) (take i l) ++ (name_bytes s (get_or l i 0) ∷ r)) ≡ length (map (name_bytes s) (take i l)) + 0 =
    index_past t (map (name_bytes s) (take i l)) (name_bytes s (get_or l i 0) ∷ r) a ∙ simp (← n, same_refl t) in
    let k = length-map (take i l) (name_bytes s) in
    let m = length-take i l in
    let w : map (name_bytes s) l ≡ map (name_bytes s) (take i l) ++ (name_bytes s (get_or l i 0) ∷ r) =
    ap (λ x. map (name_bytes s) x) (split_at l i 0 p) ∙ map-append (name_bytes s) (take i l) (get_or l i 0 ∷ drop (suc i) l) in
    ap (λ x. index_of t x) w ∙ v ∙ (omega arith)
