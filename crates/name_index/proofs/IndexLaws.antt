-- The index of names: a search along the names of a hash, and a name that comes into it. Assumes nothing.
use Prim.Native.Nat.{ℕ, ◌+◌, ◌/◌, ◌≤◌, ◌<◌}
use mathlib.Core.Path.{◌≡◌, refl, sym, ◌∙◌, ap, subst}
use mathlib.Core.Bool.{Bool, true, false, ◌||◌}
use mathlib.Core.List.{List, [], ◌∷◌, ◌++◌, map, map-append}
use lib.ListN.{length, get_or, set, replicate, length-set, length-replicate, get_or-replicate}
use lib.Seq.{get_or-set_same, get_or-set_other}
use lib.Dec.{eqb}
use native.Mathlib.Omega.{arith}
use borrow.Author.Tests.{eqb-true, eqb-false}
use Rattle.record_bytes.specs.Bytes.{word_at}
use Rattle.names.specs.Names.{NamesEnd, name_bytes, same_bytes, is_among, name_refusal, name_test, stands, Next}
use Rattle.name_index.specs.NameIndex.{hashes, indexed, hash_of, Hashed, Standing, Chained, Bucket, NamesIndexed, HasNames, Looked}
use Rattle.std.proofs.Common.{Some, None}
use Rattle.names.proofs.NameLaws.{passed_start, passed_on, among_append, same_true, Differing, differ_start, differ_done, differ_hit, differ_on}

-- A search has come to the name at v, or to 0: the text is one of the names if it is one of those that are left
pub record Rest (s index t : List ℕ) (v : ℕ) (whole : Bool) : Type 0 where
  pub limit : ℕ
  pub places : List ℕ
  pub chained : Chained s index limit v places
  pub same : whole ≡ is_among t (map (name_bytes s) places)

pub record Looking (s index t : List ℕ) (v : ℕ) : Type 0 where
  pub own : HasNames s index
  pub rest : (before : List ℕ) (limit : ℕ) → NamesIndexed s index before limit → Rest s index t v (is_among t (map (name_bytes s) before))

-- the name at v, and those after it
record First (s index t : List ℕ) (v : ℕ) (whole : Bool) : Type 0 where
  limit : ℕ
  places : List ℕ
  stands : Standing s limit v
  chained : Chained s index v (get_or index (hashes + v / 16) 0) places
  same : whole ≡ same_bytes (name_bytes s v) t || is_among t (map (name_bytes s) places)

module _ (s index t : List ℕ) where
  pub look_start : (h : ℕ) → HasNames s index → Hashed t h → Looking s index t (get_or index h 0)
  look_start h l eh =
      record {
        own = l;
        rest = λ before limit x.
            let b = x.bucket h eh.small in
            record { limit = limit; places = b.places; chained = b.chained; same = b.all t (sym eh.is) };
      }

  module _ (v : ℕ) where
    none_left : (limit : ℕ) (ps : List ℕ) → Chained s index limit v ps → v ≡ 0 → is_among t (map (name_bytes s) ps) ≡ false
    unfolding Chained is_among
    none_left limit [] c z = refl
    none_left limit (p ∷ ps) c z = absurd (omega (arith, c.0, c.1.some))

    one_left : (w : Bool) (limit : ℕ) (ps : List ℕ) → Chained s index limit v ps → w ≡ is_among t (map (name_bytes s) ps) → (v ≡ 0 → ⊥) → First s index t v w
    unfolding Chained is_among
    one_left w limit [] c e d = absurd (d c)
    one_left w limit (p ∷ ps) c e d =
        record {
          limit = limit;
          places = ps;
          stands = subst (Standing s limit) (sym c.0) c.1;
          chained = subst (λ (x : ℕ). Chained s index x (get_or index (hashes + x / 16) 0) ps) (sym c.0) c.2;
          same = e ∙ ap (λ (x : ℕ). same_bytes (name_bytes s x) t || is_among t (map (name_bytes s) ps)) (sym c.0);
        }

    lower : (limit x : ℕ) (ps : List ℕ) → Chained s index limit x ps → 1 ≤ limit → x < limit
    unfolding Chained
    lower limit x [] c l = omega (arith, c)
    lower limit x (p ∷ ps) c l = omega (arith, c.0, c.1.low, c.1.head)

    no_higher : (limit : ℕ) (ps : List ℕ) → Chained s index limit v ps → v ≤ length s
    unfolding Chained
    no_higher limit [] c = omega (arith, c)
    no_higher limit (p ∷ ps) c = omega (arith, c.0, c.1.whole)

    module _ (k : Looking s index t v) where
      pub look_low : v ≤ length s
      look_low = let r = k.rest k.own.before k.own.limit k.own.has in no_higher r.limit r.places r.chained

      pub look_done : v ≡ 0 → Looked s index t false
      look_done z = record { is = λ before limit x. let r = k.rest before limit x in sym (r.same ∙ none_left r.limit r.places r.chained z) }

      module _ (d : v ≡ 0 → ⊥) where
        first : (before : List ℕ) (limit : ℕ) → NamesIndexed s index before limit → First s index t v (is_among t (map (name_bytes s) before))
        first before limit x = let r = k.rest before limit x in one_left _ r.limit r.places r.chained r.same d

        own_first : First s index t v (is_among t (map (name_bytes s) k.own.before))
        own_first = first k.own.before k.own.limit k.own.has

        -- a whole name stands there
        pub look_here : (16 ≤ word_at s v) × (v + word_at s v ≤ length s)
        look_here = (own_first.stands.head, own_first.stands.whole)

        pub look_less : get_or index (hashes + v / 16) 0 < v
        look_less = let o = own_first in lower v _ o.places o.chained o.stands.some

        module _ (u : List ℕ) (eu : u ≡ name_bytes s v) (b : Bool) (eb : b ≡ same_bytes u t) where
          here : same_bytes (name_bytes s v) t ≡ b
          here = ap (λ x. same_bytes x t) (sym eu) ∙ sym eb

          pub look_hit : b ≡ true → Looked s index t true
          look_hit p = record { is = λ before limit x. sym ((first before limit x).same ∙ simp (here, p)) }

          pub look_on : b ≡ false → Looking s index t (get_or index (hashes + v / 16) 0)
          look_on p =
              record {
                own = k.own;
                rest = λ before limit x. let o = first before limit x in record { limit = v; places = o.places; chained = o.chained; same = o.same ∙ simp (here, p) };
              }

-- names below a limit are below a higher one
chained_higher : (s index : List ℕ) (limit limit' v : ℕ) (ps : List ℕ) → limit ≤ limit' → Chained s index limit v ps → Chained s index limit' v ps
unfolding Chained
chained_higher s index limit limit' v [] l c = c
chained_higher s index limit limit' v (p ∷ ps) l c =
    let o = c.1 in
    (c.0, record { some = o.some; head = o.head; low = omega (arith, o.low); whole = o.whole }, c.2)

-- the name at `at` comes into the index
module _ (s index : List ℕ) (at h : ℕ) (long : length index ≡ hashes + 4096) (small : h < hashes) (few : at < indexed) where
  abbrev linked : List ℕ
  linked = set (set index (hashes + at / 16) (get_or index h 0)) h at

  head_own : get_or linked h 0 ≡ at
  head_own =
      let p : h < length (set index (hashes + at / 16) (get_or index h 0)) = simp length-set (omega arith) in
      simp (get_or-set_same, p)

  head_other : (j : ℕ) → j < hashes → (j ≡ h → ⊥) → get_or linked j 0 ≡ get_or index j 0
  head_other j l ne = let n : j ≡ hashes + at / 16 → ⊥ = omega arith in simp (get_or-set_other, ne, n)

  link_own : get_or linked (hashes + at / 16) 0 ≡ get_or index h 0
  link_own =
      let ne : hashes + at / 16 ≡ h → ⊥ = omega arith in
      let p : hashes + at / 16 < length index = omega arith in
      simp (get_or-set_other, get_or-set_same, ne, p)

  link_other : (p : ℕ) → p + 16 ≤ at → get_or linked (hashes + p / 16) 0 ≡ get_or index (hashes + p / 16) 0
  link_other p l =
      let ne : hashes + p / 16 ≡ h → ⊥ = omega arith in
      let n : hashes + p / 16 ≡ hashes + at / 16 → ⊥ = omega arith in
      simp (get_or-set_other, ne, n)

  chained_kept : (limit v : ℕ) (ps : List ℕ) → limit ≤ at → Chained s index limit v ps → Chained s linked limit v ps
  unfolding Chained
  chained_kept limit v [] l c = c
  chained_kept limit v (p ∷ ps) l c =
      let o = c.1.low in
      let q = c.1.head in
      (c.0, c.1, subst (λ (x : ℕ). Chained s linked p x ps) (sym (link_other p (omega arith))) (chained_kept p (get_or index (hashes + p / 16) 0) ps (omega arith) c.2))

or_swap : (x y : Bool) → x || (y || false) ≡ y || x
or_swap true true = refl
or_swap true false = refl
or_swap false true = refl
or_swap false false = refl

or_none : (x y : Bool) → y ≡ false → x || (y || false) ≡ x
or_none true y e = refl
or_none false y e = simp e

-- No name passed is equal to an earlier one, and all are in the index
pub record Indexing (s : List ℕ) (end at : ℕ) (index : List ℕ) : Type 0 where
  pub count : ℕ
  pub differ : Differing s end at count
  pub long : length index ≡ hashes + 4096
  pub has : NamesIndexed s index differ.passed.before at

pub index_start : (s : List ℕ) (end : ℕ) (index : List ℕ) → NamesEnd s end → 20 ≤ length s → index ≡ replicate (hashes + 4096) 0 → Indexing s end 32 index
unfolding differ_start passed_start is_among Chained
index_start s end index e p z =
    record {
      count = 0;
      differ = differ_start s end e p;
      long = ap length z ∙ length-replicate {A = ℕ} (hashes + 4096) 0;
      has = record {
        bucket = λ h l. record {
          places = [];
          chained = ap (λ (x : List ℕ). get_or x h 0) z ∙ get_or-replicate (hashes + 4096) h 0 0 (omega arith);
          all = λ t q. refl;
        };
      };
    }

module _ (s : List ℕ) (end at : ℕ) (index : List ℕ) (k : Indexing s end at index) where
  pub index_listed : HasNames s index
  index_listed = record { before = k.differ.passed.before; limit = at; has = k.has }

  pub index_done : stands s at end ≡ false → name_refusal None ≡ name_test s
  index_done e = differ_done s end at k.count k.differ e

  module _ (next : ℕ) (f : Next s at end next) where
    module _ (u : List ℕ) (eu : u ≡ name_bytes s at) (h : ℕ) (eh : Hashed u h) (b : Bool) (eb : Looked s index u b) where
      told : is_among (name_bytes s at) (map (name_bytes s) k.differ.passed.before) ≡ b
      told = sym (eb.is k.differ.passed.before at k.has ∙ ap (λ x. is_among x (map (name_bytes s) k.differ.passed.before)) eu)

      pub index_hit : b ≡ true → name_refusal (Some at) ≡ name_test s
      index_hit p = differ_hit s end at k.count k.differ next f (told ∙ p)

      hash_here : (t : List ℕ) → same_bytes (name_bytes s at) t ≡ true → hash_of t ≡ h
      hash_here t e = ap hash_of (sym (same_true (name_bytes s at) t e) ∙ sym eu) ∙ sym eh.is

      module _ (inside : end ≤ length s) (short : length s ≤ indexed) where
        few : at < indexed
        few = omega (arith, f.head, f.inside)

        standing : Standing s next at
        standing =
            let g = f.head in
            let n = f.is in
            let l = f.inside in
            let r = k.differ.passed.room in
            record { some = omega arith; head = omega arith; low = omega arith; whole = omega arith }

        abbrev after : List ℕ
        after = linked s index at h k.long eh.small few

        more : (t : List ℕ) → is_among t (map (name_bytes s) (k.differ.passed.before ++ (at ∷ [])))
            ≡ is_among t (map (name_bytes s) k.differ.passed.before) || (same_bytes (name_bytes s at) t || false)
        unfolding is_among
        more t = rw (map-append (name_bytes s) k.differ.passed.before (at ∷ []), among_append)

        bucket_own : Bucket s after (k.differ.passed.before ++ (at ∷ [])) next h
        unfolding is_among Chained
        bucket_own =
            let o = k.has.bucket h eh.small in
            record {
              places = at ∷ o.places;
              chained = (
                head_own s index at h k.long eh.small few,
                standing,
                subst (λ (x : ℕ). Chained s after at x o.places) (sym (link_own s index at h k.long eh.small few))
                    (chained_kept s index at h k.long eh.small few at (get_or index h 0) o.places (omega arith) o.chained),
              );
              all = λ t e.
                  more t ∙ ap (λ (x : Bool). x || (same_bytes (name_bytes s at) t || false)) (o.all t e)
                  ∙ or_swap (is_among t (map (name_bytes s) o.places)) (same_bytes (name_bytes s at) t);
            }

        bucket_other : (j : ℕ) → j < hashes → (j ≡ h → ⊥) → Bucket s after (k.differ.passed.before ++ (at ∷ [])) next j
        bucket_other j l ne =
            let o = k.has.bucket j l in
            let g = f.head in
            record {
              places = o.places;
              chained = subst (λ (x : ℕ). Chained s after next x o.places) (sym (head_other s index at h k.long eh.small few j l ne))
                  (chained_higher s after at next (get_or index j 0) o.places (omega arith)
                  (chained_kept s index at h k.long eh.small few at (get_or index j 0) o.places (omega arith) o.chained));
              all = λ t e. more t ∙ or_none (is_among t (map (name_bytes s) k.differ.passed.before)) (same_bytes (name_bytes s at) t) (differs t e (same_bytes (name_bytes s at) t) refl) ∙ o.all t e;
            }
          where
            differs : (t : List ℕ) → hash_of t ≡ j → (x : Bool) → same_bytes (name_bytes s at) t ≡ x → same_bytes (name_bytes s at) t ≡ false
            differs t e true g = absurd (ne (sym e ∙ hash_here t g))
            differs t e false g = g

        pub index_on : b ≡ false → Indexing s end next (set (set index (hashes + at / 16) (get_or index h 0)) h at)
        unfolding differ_on passed_on
        index_on p =
            record {
              count = k.count + 1;
              differ = differ_on s end at k.count k.differ next f (told ∙ p);
              long = simp length-set k.long;
              has = record { bucket = λ j l. go j l (eqb j h) refl };
            }
          where
            go : (j : ℕ) → j < hashes → (x : Bool) → eqb j h ≡ x → Bucket s after (k.differ.passed.before ++ (at ∷ [])) next j
            go j l true q = subst (Bucket s after (k.differ.passed.before ++ (at ∷ [])) next) (sym (eqb-true j h q)) bucket_own
            go j l false q = bucket_other j l (eqb-false j h q)
