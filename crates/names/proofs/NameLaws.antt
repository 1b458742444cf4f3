-- The chain of records that the names are. Assumes nothing.
use Prim.Native.Nat.{ℕ, zero, suc, ◌+◌, ◌-◌, ◌*◌, ◌≤◌, ◌<◌, ◌^◌, min}
use mathlib.Core.Path.{◌≡◌, refl, sym, ◌∙◌, ap}
use mathlib.Core.Bool.{Bool, true, false, ◌&&◌, ◌||◌}
use mathlib.Core.List.{List, [], ◌∷◌, ◌++◌, map, map-append, append-nil, append_assoc}
use lib.ListN.{length, take, drop, length-append, length-map}
use Rattle.shape.proofs.ShapeLaws.{and_both}
use lib.Dec.{eqb}
use lib.Pointwise.{pointwise}
use lib.Seq.{take_all}
use native.Mathlib.Omega.{arith}
use borrow.Author.Tests.{lt-leb, le-leb, eq-eqb, eqb-true}
use Rattle.shape.specs.Shape.{pick}
use Rattle.record_bytes.specs.Bytes.{word_at}
use Rattle.names.specs.Names.{stands, chain, names_end, NamesEnd, name_places, name_bytes, names_of, name_count, same_bytes, is_among, index_of, number_of, repeat_in, repeated_name, name_refusal, name_test, Next}
use Rattle.std.proofs.Common.{Some, None, nat_eq}
use Rattle.shape.proofs.Cases.{one_less}

module _ (s : List ℕ) (at end : ℕ) where
  pub next_past : end < at → stands s at end ≡ false
  unfolding stands
  next_past p = simp (lt-leb (at + 16) end (omega arith))

  module _ (room : ℕ) (p : (at ≤ end) × (room ≡ end - at)) where
    pub next_room : room < 16 → stands s at end ≡ false
    unfolding stands
    next_room q = simp (lt-leb (at + 16) end (omega arith))

    module _ (len : ℕ) (e : len ≡ word_at s at) (q : 16 ≤ room) where
      pub next_short : len < 16 → stands s at end ≡ false
      unfolding stands
      next_short r = simp (← e, le-leb (at + 16) end (omega arith), lt-leb 16 len r)

      module _ (r : 16 ≤ len) where
        pub next_long : room < len → stands s at end ≡ false
        unfolding stands
        next_long t = simp (← e, le-leb (at + 16) end (omega arith), le-leb 16 len r, lt-leb (at + len) end (omega arith))

        pub next_found : len ≤ room → Next s at end (at + len)
        unfolding stands
        next_found t =
            record {
              whole = simp (← e, le-leb (at + 16) end (omega arith), le-leb 16 len r, le-leb (at + len) end (omega arith));
              is = omega arith;
              head = omega arith;
              inside = omega arith;
            }

pub ends_at : (s : List ℕ) (len r : ℕ) → len ≡ word_at s 16 → len < 2 ^ 32 → r ≡ min (length s) (16 + len) → NamesEnd s r
unfolding names_end
ends_at s len r e q p = record { is = rw (← e) (omega arith); inside = omega arith; small = omega arith }

pub chain_none : (s : List ℕ) (n at end : ℕ) → stands s at end ≡ false → chain n s at end ≡ []
unfolding chain
chain_none s zero at end e = refl
chain_none s (suc n) at end e = simp e

pub chain_more : (s : List ℕ) (n at end : ℕ) → 0 < n → stands s at end ≡ true → chain n s at end ≡ at ∷ chain (n - 1) s (at + word_at s at) end
unfolding chain
chain_more s n at end p e = ap (λ m. chain m s at end) (one_less n p) ∙ simp e

-- a module too short for a name has none
places_short : (s : List ℕ) → length s < 20 → name_places s ≡ []
unfolding name_places names_end stands
places_short s p =
    let e = min (16 + word_at s 16) (length s) in
    chain_none s (length s) 32 e (simp (lt-leb 48 e (omega arith)))

pub count_short : (s : List ℕ) → length s < 20 → 0 ≡ name_count s
unfolding name_count
count_short s p = rw (places_short s p)

-- The names before `at`, `count` in number, are passed: their places are `before`
pub record Passed (s : List ℕ) (end at count : ℕ) : Type 0 where
  pub before : List ℕ
  pub left : ℕ
  pub enough : end - at < left
  pub whole : name_places s ≡ before ++ chain left s at end
  pub many : length before ≡ count
  pub room : 16 * count + 32 ≤ at

unfoldable pub passed_start : (s : List ℕ) (end : ℕ) → NamesEnd s end → 20 ≤ length s → Passed s end 32 0
unfolding name_places
passed_start s end e p =
    let q = e.inside in
    record { before = []; left = length s; enough = omega arith; whole = ap (λ m. chain (length s) s 32 m) (sym e.is); many = refl; room = omega arith }

module _ (s : List ℕ) (end at count : ℕ) (k : Passed s end at count) where
  pub passed_all : stands s at end ≡ false → name_places s ≡ k.before
  passed_all e = k.whole ∙ rw (chain_none s k.left at end e, append-nil)

  pub count_done : stands s at end ≡ false → count ≡ name_count s
  unfolding name_count
  count_done e = sym k.many ∙ ap length (sym (passed_all e))

  module _ (next : ℕ) (f : Next s at end next) where
    -- the place `at` is the next name's
    pub passed_next : name_places s ≡ k.before ++ (at ∷ chain (k.left - 1) s next end)
    passed_next =
        let b = k.enough in
        k.whole ∙ rw (chain_more s k.left at end (omega arith) f.whole, ← f.is)

    unfoldable pub passed_on : Passed s end next (count + 1)
    passed_on =
        let b = k.enough in
        let m = k.many in
        record {
          before = k.before ++ (at ∷ []);
          left = k.left - 1;
          enough = omega (arith, f.head, f.inside);
          whole = passed_next ∙ simp append_assoc;
          many = simp length-append (omega arith);
          room = omega (arith, k.room, f.head);
        }

-- Texts
pub same_refl : (a : List ℕ) → same_bytes a a ≡ true
unfolding same_bytes
same_refl [] = refl
same_refl (x ∷ a) = simp (eq-eqb x x refl) (same_refl a)

-- Cited by nothing here now
pub same_length : (a b : List ℕ) → (length a ≡ length b → ⊥) → false ≡ same_bytes a b
unfolding same_bytes
same_length [] [] d = absurd (d refl)
same_length [] (y ∷ b) d = refl
same_length (x ∷ a) [] d = refl
same_length (x ∷ a) (y ∷ b) d = go (eqb x y) (same_length a b (λ e. d (ap suc e)))
  where
    go : (t : Bool) → false ≡ same_bytes a b → false ≡ (t && same_bytes a b)
    go true e = e
    go false e = refl

-- `==` of two texts
pub same_pointwise : (a b : List ℕ) → pointwise nat_eq a b ≡ same_bytes a b
unfolding same_bytes
same_pointwise [] [] = refl
same_pointwise [] (y ∷ b) = refl
same_pointwise (x ∷ a) [] = refl
same_pointwise (x ∷ a) (y ∷ b) = ap (λ (r : Bool). eqb x y && r) (same_pointwise a b)

-- and with a part of the second that is all of it
pub same_part : (a b : List ℕ) (n : ℕ) → length b ≤ n → pointwise nat_eq a (take n b) ≡ same_bytes a b
same_part a b n p = rw (take_all n b p) (same_pointwise a b)

pub name_part : (s : List ℕ) (at stop : ℕ) → stop ≡ at + word_at s at → take (stop - (at + 16)) (drop (at + 16) s) ≡ name_bytes s at
unfolding name_bytes
name_part s at stop e =
    let d : stop - (at + 16) ≡ word_at s at - 16 = omega arith in
    ap (λ n. take n (drop (at + 16) s)) d

pub among_append : (t : List ℕ) (a b : List (List ℕ)) → is_among t (a ++ b) ≡ is_among t a || is_among t b
unfolding is_among
among_append t [] b = refl
among_append t (n ∷ a) b = go (same_bytes n t) (among_append t a b)
  where
    go : (x : Bool) → is_among t (a ++ b) ≡ is_among t a || is_among t b → (x || is_among t (a ++ b)) ≡ ((x || is_among t a) || is_among t b)
    go true e = refl
    go false e = e

-- where none of the first is the text, its index is past them
pub index_past : (t : List ℕ) (a b : List (List ℕ)) → is_among t a ≡ false → index_of t (a ++ b) ≡ length a + index_of t b
unfolding is_among index_of
index_past t [] b e = omega arith
index_past t (n ∷ a) b e = go (same_bytes n t) e (index_past t a b)
  where
    go : (x : Bool) → (x || is_among t a) ≡ false → (is_among t a ≡ false → index_of t (a ++ b) ≡ length a + index_of t b)
        → pick x 0 (1 + index_of t (a ++ b)) ≡ suc (length a) + index_of t b
    go true e h = absurd (let z : ◌≡◌ {A = ℕ} 0 1 = cc in omega arith)
    go false e h = let q = h e in omega arith

-- where one of the first is the text, its index is among them
index_among : (t : List ℕ) (a b : List (List ℕ)) → is_among t a ≡ true → index_of t (a ++ b) < length a
unfolding is_among index_of
index_among t [] b e = absurd (let z : ◌≡◌ {A = ℕ} 0 1 = cc in omega arith)
index_among t (n ∷ a) b e = go (same_bytes n t) e (index_among t a b)
  where
    go : (x : Bool) → (x || is_among t a) ≡ true → (is_among t a ≡ true → index_of t (a ++ b) < length a) → pick x 0 (1 + index_of t (a ++ b)) < suc (length a)
    go true e h = omega arith
    go false e h = let q = h e in omega arith

-- None of the names passed is the text
pub record Finding (s t : List ℕ) (end at count : ℕ) : Type 0 where
  pub passed : Passed s end at count
  pub absent : is_among t (map (name_bytes s) passed.before) ≡ false

pub find_start : (s t : List ℕ) (end : ℕ) → NamesEnd s end → 20 ≤ length s → Finding s t end 32 0
unfolding is_among passed_start
find_start s t end e p = record { passed = passed_start s end e p; absent = refl }

pub find_short : (s t : List ℕ) → length s < 20 → 0 ≡ number_of s t
unfolding number_of names_of index_of
find_short s t p = rw (places_short s p)

module _ (s : List ℕ) (end at count : ℕ) (k : Passed s end at count) where
  names_before : length (map (name_bytes s) k.before) ≡ count
  names_before = length-map k.before (name_bytes s) ∙ k.many

  names_all : stands s at end ≡ false → names_of s ≡ map (name_bytes s) k.before ++ []
  unfolding names_of
  names_all e = rw (passed_all s end at count k e, append-nil)

  module _ (next : ℕ) (f : Next s at end next) where
    names_next : names_of s ≡ map (name_bytes s) k.before ++ (name_bytes s at ∷ map (name_bytes s) (chain (k.left - 1) s next end))
    unfolding names_of
    names_next = rw (passed_next s end at count k next f, map-append)

    -- the number of the name at `at`, where no earlier one is equal to it
    number_new : (t : List ℕ) → is_among t (map (name_bytes s) k.before) ≡ false → same_bytes (name_bytes s at) t ≡ true → count ≡ number_of s t
    unfolding number_of index_of
    number_new t a e =
        let r = map (name_bytes s) (chain (k.left - 1) s next end) in
        let v : index_of t (map (name_bytes s) k.before ++ (name_bytes s at ∷ r)) ≡ length (map (name_bytes s) k.before) + 0 =
        index_past t (map (name_bytes s) k.before) (name_bytes s at ∷ r) a ∙ simp e in
        let n = names_before in
        rw names_next (omega (arith, v, n))

    number_old : (t : List ℕ) → is_among t (map (name_bytes s) k.before) ≡ true → number_of s t < count
    unfolding number_of
    number_old t a =
        let r = map (name_bytes s) (chain (k.left - 1) s next end) in
        let v = index_among t (map (name_bytes s) k.before) (name_bytes s at ∷ r) a in
        let n = names_before in
        rw names_next (omega (arith, v, n))

module _ (s t : List ℕ) (end at count : ℕ) (k : Finding s t end at count) where
  pub find_done : stands s at end ≡ false → count ≡ number_of s t
  unfolding number_of index_of
  find_done e =
      let v = index_past t (map (name_bytes s) k.passed.before) [] k.absent in
      let n = names_before s end at count k.passed in
      rw (names_all s end at count k.passed e) (omega (arith, v, n))

  module _ (next : ℕ) (f : Next s at end next) (u : List ℕ) (eu : u ≡ name_bytes s at) (b : Bool) (eb : b ≡ same_bytes u t) where
    here : same_bytes (name_bytes s at) t ≡ b
    here = ap (λ x. same_bytes x t) (sym eu) ∙ sym eb

    pub find_hit : b ≡ true → count ≡ number_of s t
    find_hit p = number_new s end at count k.passed next f t k.absent (here ∙ p)

    pub find_on : b ≡ false → Finding s t end next (count + 1)
    unfolding is_among passed_on
    find_on p =
        record {
          passed = passed_on s end at count k.passed next f;
          absent = rw (map-append (name_bytes s) k.passed.before (at ∷ []), among_append) (simp (k.absent, here, p));
        }

-- No name passed is equal to an earlier one
pub record Differing (s : List ℕ) (end at count : ℕ) : Type 0 where
  pub passed : Passed s end at count
  pub rest : repeated_name s ≡ repeat_in s (map (name_bytes s) passed.before) (chain passed.left s at end)

unfoldable pub differ_start : (s : List ℕ) (end : ℕ) → NamesEnd s end → 20 ≤ length s → Differing s end 32 0
unfolding passed_start repeated_name
differ_start s end e p = record { passed = passed_start s end e p; rest = ap (λ x. repeat_in s [] x) (passed_start s end e p).whole }

pub differ_short : (s : List ℕ) → length s < 20 → name_refusal None ≡ name_test s
unfolding repeated_name repeat_in
differ_short s p = rw (places_short s p)

module _ (s : List ℕ) (end at count : ℕ) (k : Differing s end at count) where
  pub differ_done : stands s at end ≡ false → name_refusal None ≡ name_test s
  unfolding repeat_in
  differ_done e = ap name_refusal (sym (k.rest ∙ rw (chain_none s k.passed.left at end e)))

  module _ (next : ℕ) (f : Next s at end next) where
    pub here_next : repeated_name s ≡ repeat_in s (map (name_bytes s) k.passed.before) (at ∷ chain (k.passed.left - 1) s next end)
    here_next =
        let b = k.passed.enough in
        k.rest ∙ rw (chain_more s k.passed.left at end (omega arith) f.whole, ← f.is)

    pub differ_hit : is_among (name_bytes s at) (map (name_bytes s) k.passed.before) ≡ true → name_refusal (Some at) ≡ name_test s
    unfolding repeat_in
    differ_hit e = ap name_refusal (sym (here_next ∙ simp e))

    unfoldable pub differ_on : is_among (name_bytes s at) (map (name_bytes s) k.passed.before) ≡ false → Differing s end next (count + 1)
    unfolding repeat_in passed_on
    differ_on e =
        record {
          passed = passed_on s end at count k.passed next f;
          rest = here_next ∙ rw (map-append (name_bytes s) k.passed.before (at ∷ [])) (simp e);
        }

    module _ (u : List ℕ) (eu : u ≡ name_bytes s at) (m : ℕ) (em : m ≡ number_of s u) where
      number_here : m ≡ number_of s (name_bytes s at)
      number_here = em ∙ ap (λ x. number_of s x) eu

      pub number_not : (m ≡ count → ⊥) → name_refusal (Some at) ≡ name_test s
      number_not q = go (is_among (name_bytes s at) (map (name_bytes s) k.passed.before)) refl
        where
          go : (b : Bool) → is_among (name_bytes s at) (map (name_bytes s) k.passed.before) ≡ b → name_refusal (Some at) ≡ name_test s
          go true e = differ_hit e
          go false e = absurd (q (number_here ∙ sym (number_new s end at count k.passed next f (name_bytes s at) e (same_refl (name_bytes s at)))))

      pub number_on : m ≡ count → Differing s end next (count + 1)
      number_on q = go (is_among (name_bytes s at) (map (name_bytes s) k.passed.before)) refl
        where
          go : (b : Bool) → is_among (name_bytes s at) (map (name_bytes s) k.passed.before) ≡ b → Differing s end next (count + 1)
          go true e = absurd (let z = number_old s end at count k.passed next f (name_bytes s at) e in let y = number_here in omega arith)
          go false e = differ_on e

pub same_true : (a b : List ℕ) → same_bytes a b ≡ true → a ≡ b
unfolding same_bytes
same_true [] [] e = refl
same_true [] (y ∷ b) e = absurd (let z : ◌≡◌ {A = ℕ} 0 1 = cc in omega arith)
same_true (x ∷ a) [] e = absurd (let z : ◌≡◌ {A = ℕ} 0 1 = cc in omega arith)
same_true (x ∷ a) (y ∷ b) e =
    let p = and_both (eqb x y) (same_bytes a b) e in
    let q = eqb-true x y p.0 in
    let r = same_true a b p.1 in
    λ i. q i ∷ r i
