-- Each exit of the walk over the layout. Assumes nothing.
use Prim.Native.Nat.{ℕ, suc, ◌+◌, ◌-◌, ◌*◌, ◌≤◌, ◌<◌}
use mathlib.Core.Path.{◌≡◌, refl, sym, ◌∙◌, ap}
use mathlib.Core.Bool.{Bool, true, false, not, ◌&&◌}
use mathlib.Core.List.{List}
use mathlib.Core.Option.{none}
use lib.ListN.{length}
use lib.Dec.{leb}
use native.Mathlib.Omega.{arith}
use borrow.Author.Tests.{lt-leb, le-leb, leb-true, eq-eqb, ne_eqb, lt-ltb, le-ltb, not-true, not-false}
use Rattle.shape.specs.Shape.{pick, shape_of, due_in, is_done, may_stand, state_after}
use Rattle.shape.specs.declared.Holds.{Holds}
use Rattle.shape.specs.declared.Holds.TheVariants.{OneModule}
use Rattle.shape.specs.declared.Shape.{Shape}
use Rattle.shape.specs.declared.Due.{Due}
use Rattle.shape.proofs.ShapeLaws.{and_both}
use Rattle.record_bytes.specs.Bytes.{half_at, word_at, head_size}
use Rattle.names.specs.Names.{name_count}
use Rattle.layout.specs.Layout.{Layout, Good, good_head, max_bytes, max_depth, shape_at, start_at, stop_at, is_whole, is_bad, head_at, answer_if, and_then, after_head, list_step, list_at, record_at, layout_of, layout_refusal, layout_tests, LayoutOfList}
use Rattle.std.proofs.Common.{Result, Ok, Err}
use Rattle.layout.specs.declared.LayoutError.{LayoutError}
use Rattle.layout.specs.declared.LayoutError.TheVariants.{TooLong, Fault, TooDeep}
use Rattle.layout.specs.declared.Head.{Head}
use Rattle.shape.proofs.Cases.{one_less}

-- The head of a record, by the tests of its code
module _ (n : ℕ) (s : List ℕ) (at end : ℕ) (due : Due) where
  pub head_room : end - at < 16 → Err (Fault at) ≡ head_at n s at end due
  unfolding head_at
  head_room p = simp (lt-leb _ _ p)

  module _ (len : ℕ) (e : len ≡ word_at s at) (p₁ : 16 ≤ end - at) where
    pub head_long : end - at < len → Err (Fault at) ≡ head_at n s at end due
    unfolding head_at
    head_long p = simp (← e, le-leb _ _ p₁, lt-leb _ _ p)

    module _ (k : ℕ) (r : Shape) (ek : k ≡ half_at s (at + 4)) (er : r ≡ shape_of k) (p₂ : len ≤ end - at) where
      es : shape_of (half_at s (at + 4)) ≡ r
      es = ap shape_of (sym ek) ∙ sym er

      pub head_short : len < 16 + 4 * r.fields → Err (Fault at) ≡ head_at n s at end due
      unfolding head_at
      head_short p = simp (← e, es, le-leb _ _ p₁, le-leb _ _ p₂, lt-leb _ _ p)

      module _ (p₃ : 16 + 4 * r.fields ≤ len) (b : Bool) (eb : b ≡ may_stand due r.class) where
        pub head_class : not b ≡ true → Err (Fault at) ≡ head_at n s at end due
        unfolding head_at
        head_class p = simp (← e, es, le-leb _ _ p₁, le-leb _ _ p₂, le-leb _ _ p₃, ← eb, not-true b p)

        module _ (p₄ : not b ≡ false) (b₁ : Bool) (e₁ : b₁ ≡ is_bad n s 1 r.fields r.first (at + 16)) where
          pub head_first : b₁ ≡ true → Err (Fault (at + 16)) ≡ head_at n s at end due
          unfolding head_at
          head_first p = simp (← e, es, le-leb _ _ p₁, le-leb _ _ p₂, le-leb _ _ p₃, ← eb, not-false b p₄, ← e₁, p)

          module _ (p₅ : b₁ ≡ false) (b₂ : Bool) (e₂ : b₂ ≡ is_bad n s 2 r.fields r.second (at + 20)) where
            pub head_second : b₂ ≡ true → Err (Fault (at + 20)) ≡ head_at n s at end due
            unfolding head_at
            head_second p = simp (← e, es, le-leb _ _ p₁, le-leb _ _ p₂, le-leb _ _ p₃, ← eb, not-false b p₄, ← e₁, p₅, ← e₂, p)

            pub head_good : (x : Holds) → b₂ ≡ false → x ≡ state_after due r.class → Ok (record { start = at + 16 + 4 * r.fields; stop = at + len; holds = r.holds; next = x }) ≡ head_at n s at end due
            unfolding head_at
            head_good x p ex = simp (← e, es, le-leb _ _ p₁, le-leb _ _ p₂, le-leb _ _ p₃, ← eb, not-false b p₄, ← e₁, p₅, ← e₂, p, ex)

-- What the head of a record says that has one
pub record Known (n : ℕ) (s : List ℕ) (at end : ℕ) (due : Due) (head : Head) : Type 0 where
  pub room : word_at s at ≤ end - at
  pub long : 16 + 4 * (shape_at s at).fields ≤ word_at s at
  pub class : may_stand due (shape_at s at).class ≡ true
  pub first : is_bad n s 1 (shape_at s at).fields (shape_at s at).first (at + 16) ≡ false
  pub second : is_bad n s 2 (shape_at s at).fields (shape_at s at).second (at + 20) ≡ false
  pub starts : head.start ≡ start_at s at
  pub stops : head.stop ≡ stop_at s at
  pub inner : head.holds ≡ (shape_at s at).holds
  pub after : head.next ≡ state_after due (shape_at s at).class

taken : (e : LayoutError) (t : Bool) (y : Result Head LayoutError) {h : Head} → pick t y (Err e) ≡ Ok h → (t ≡ true) × (y ≡ Ok h)
taken e true y q = (refl, q)
taken e false y q = absurd (cc)

not_taken : (e : LayoutError) (t : Bool) (y : Result Head LayoutError) {h : Head} → pick t (Err e) y ≡ Ok h → (t ≡ false) × (y ≡ Ok h)
not_taken e true y q = absurd (cc)
not_taken e false y q = (refl, q)

same_head : (a b : Head) → ◌≡◌ {A = Result Head LayoutError} (Ok a) (Ok b) → b ≡ a
same_head a b e = cc

pub known : (n : ℕ) (s : List ℕ) (at end : ℕ) (due : Due) (head : Head) → head_at n s at end due ≡ Ok head → Known n s at end due head
unfolding head_at
known n s at end due head e =
    let r = shape_at s at in
    let w = word_at s at in
    let y₃ : Result Head LayoutError = Ok (good_head s at due) in
    let b₂ = is_bad n s 2 r.fields r.second (at + 20) in
    let y₂ = pick b₂ (Err (Fault (at + 20))) y₃ in
    let b₁ = is_bad n s 1 r.fields r.first (at + 16) in
    let y₁ = pick b₁ (Err (Fault (at + 16))) y₂ in
    let q₁ = taken (Fault at) (is_whole s at end && may_stand due r.class) y₁ e in
    let q₂ = not_taken (Fault (at + 16)) b₁ y₂ q₁.1 in
    let q₃ = not_taken (Fault (at + 20)) b₂ y₃ q₂.1 in
    let u = and_both (is_whole s at end) (may_stand due r.class) q₁.0 in
    let v = and_both (leb 16 (end - at)) (leb w (end - at) && leb (16 + 4 * r.fields) w) u.0 in
    let x = and_both (leb w (end - at)) (leb (16 + 4 * r.fields) w) v.1 in
    let z = same_head (good_head s at due) head q₃.1 in
    record {
      room = leb-true _ _ x.0;
      long = leb-true _ _ x.1;
      class = u.1;
      first = q₂.0;
      second = q₃.0;
      starts = ap (λ (h : Head). h.start) z;
      stops = ap (λ (h : Head). h.stop) z;
      inner = ap (λ (h : Head). h.holds) z;
      after = ap (λ (h : Head). h.next) z;
    }

pub list_step_lem : (f : ℕ → ℕ → Due → Layout) (s : List ℕ) (n at end : ℕ) (st : Holds) → 0 < n → list_at f s n at end st ≡ list_step f (λ a u. list_at f s (n - 1) a end u) s at end (due_in st)
unfolding list_at
list_step_lem f s n at end st p = ap (λ (m : ℕ). list_at f s m at end st) (one_less n p)

pub record_step : (n : ℕ) (s : List ℕ) (d at end : ℕ) (due : Due) → 1 ≤ d
    → record_at n s d at end due ≡ after_head (λ a b h. list_at (record_at n s (d - 1)) s (suc (length s)) a b h) (head_at n s at end due)
unfolding record_at
record_step n s d at end due p = ap (λ (m : ℕ). record_at n s m at end due) (one_less d p)

zeroed : (d : ℕ) → d < 1 → d ≡ 0
zeroed d p = omega arith

record_deep : (n : ℕ) (s : List ℕ) (d at end : ℕ) (due : Due) → d < 1 → record_at n s d at end due ≡ Err (TooDeep at)
unfolding record_at
record_deep n s d at end due p = ap (λ (m : ℕ). record_at n s m at end due) (zeroed d p)

-- an answer that is not Good is the answer of the whole. Cited by nothing here now
pub stays : (r : Layout) → (r ≡ Good → ⊥) → (f : Unit {0} → Layout) → r ≡ and_then r f
stays (Ok u) n f = absurd (n refl)
stays (Err e) n f = refl

-- What is left of a list has the layout of the whole: so far there is no fault
pub record Rest (f : ℕ → ℕ → Due → Layout) (s : List ℕ) (end at : ℕ) (st : Holds) (whole : Layout) : Type 0 where
  pub left : ℕ
  pub enough : end - at < left
  pub same : whole ≡ list_at f s left at end st

pub record Walking (n : ℕ) (s : List ℕ) (d from end : ℕ) (st₀ : Holds) (at : ℕ) (st : Holds) : Type 0 where
  pub inside : at ≤ end
  pub rest : (m : ℕ) → end - from < m → Rest (record_at n s d) s end at st (list_at (record_at n s d) s m from end st₀)

pub walk_start : (n : ℕ) (s : List ℕ) (d from end : ℕ) (st : Holds) → from ≤ end → Walking n s d from end st from st
walk_start n s d from end st p = record { inside = p; rest = λ m q. record { left = m; enough = q; same = refl } }

-- a list that is complete at its start
walked_at_once : (n : ℕ) (s : List ℕ) (d from end : ℕ) (st : Holds) (due : Due) → due ≡ due_in st → (b : Bool) → b ≡ is_done due from end → b ≡ true → LayoutOfList n s d from end st Good
walked_at_once n s d from end st due ed b eb p = record { is = λ m q. simp (list_step_lem (record_at n s d) s m from end st (omega arith), ← ed, ← eb, p) }

module _ (n : ℕ) (s : List ℕ) (d from end : ℕ) (st₀ : Holds) (at : ℕ) (st : Holds) (w : Walking n s d from end st₀ at st) where
  walk_exit : (r : Layout) → ((m : ℕ) → end - at < m → r ≡ list_at (record_at n s d) s m at end st) → LayoutOfList n s d from end st₀ r
  walk_exit r f = record { is = λ m q. f (w.rest m q).left (w.rest m q).enough ∙ sym (w.rest m q).same }

  module _ (due : Due) (ed : due ≡ due_in st) (b : Bool) (eb : b ≡ is_done due at end) where
    pub walk_done : b ≡ true → LayoutOfList n s d from end st₀ Good
    walk_done p = walk_exit Good (λ m q. simp (list_step_lem (record_at n s d) s m at end st (omega arith), ← ed, ← eb, p))

    module _ (p : b ≡ false) where
      pub walk_left : due.class ≡ 0 → LayoutOfList n s d from end st₀ (Err (Fault at))
      walk_left z = walk_exit (Err (Fault at)) (λ m q. simp (list_step_lem (record_at n s d) s m at end st (omega arith), ← ed, ← eb, p, eq-eqb _ _ z))

      module _ (z : due.class ≡ 0 → ⊥) where
        pub walk_deep : d < 1 → LayoutOfList n s d from end st₀ (Err (TooDeep at))
        walk_deep k = walk_exit (Err (TooDeep at)) (λ m q. simp (list_step_lem (record_at n s d) s m at end st (omega arith), ← ed, ← eb, p, ne_eqb _ _ z, record_deep n s d at end due k))

        module _ (k : 1 ≤ d) where
          pub walk_wrong : (e : LayoutError) → Err e ≡ head_at n s at end due → LayoutOfList n s d from end st₀ (Err e)
          walk_wrong e h = walk_exit (Err e) (λ m q. simp (list_step_lem (record_at n s d) s m at end st (omega arith), ← ed, ← eb, p, ne_eqb _ _ z, record_step n s d at end due k, ← h))

          module _ (h : Head) (eh : Ok h ≡ head_at n s at end due) where
            pub in_body : Known n s at end due h
            in_body = known n s at end due h (sym eh)

            module _ (r : Layout) (er : LayoutOfList n s (d - 1) h.start h.stop h.holds r) (le : end ≤ length s) where
              in_record : record_at n s d at end due ≡ r
              in_record =
                  let g = in_body in
                  let a = w.inside in
                  record_step n s d at end due k ∙ simp (← eh) (sym (er.is (suc (length s)) (omega arith)))

              pub walk_inner : (e : LayoutError) → r ≡ Err e → LayoutOfList n s d from end st₀ (Err e)
              walk_inner e g = walk_exit (Err e) (λ m q. simp (list_step_lem (record_at n s d) s m at end st (omega arith), ← ed, ← eb, p, ne_eqb _ _ z, in_record, g))

              pub walk_on : r ≡ Good → Walking n s d from end st₀ h.stop h.next
              walk_on g =
                  let y = in_body in
                  let a = w.inside in
                  let j : h.stop ≡ at + word_at s at = y.stops in
                  record {
                    inside = omega arith;
                    rest = λ m q.
                        let v = w.rest m q in
                        let f = v.left in
                        let o = v.enough in
                        record {
                          left = f - 1;
                          enough = omega arith;
                          same = v.same ∙ simp (list_step_lem (record_at n s d) s f at end st (omega arith), ← ed, ← eb, p, ne_eqb _ _ z, in_record, g, ← y.stops, ← y.after);
                        };
                  }

            pub walk_past : (due₁ : Due) → due₁ ≡ due_in h.holds → (b₁ : Bool) → b₁ ≡ is_done due₁ h.start h.stop → not b₁ ≡ false → end ≤ length s → Walking n s d from end st₀ h.stop h.next
            walk_past due₁ e₁ b₁ eb₁ p₁ le = walk_on Good (walked_at_once n s (d - 1) h.start h.stop h.holds due₁ e₁ b₁ eb₁ (not-false b₁ p₁)) le refl

module _ (s : List ℕ) where
  is_empty : length s ≡ 0 → Good ≡ layout_of s
  unfolding layout_of
  is_empty e = simp (eq-eqb (length s) 0 e)

  is_too_long : (length s ≡ 0 → ⊥) → max_bytes < length s → Err TooLong ≡ layout_of s
  unfolding layout_of
  is_too_long some p = simp (ne_eqb (length s) 0 some, lt-ltb _ _ p)

  is_walked : (n : ℕ) (r : Layout) → (length s ≡ 0 → ⊥) → length s ≤ max_bytes → n ≡ name_count s → LayoutOfList n s max_depth 0 (length s) OneModule r → r ≡ layout_of s
  unfolding layout_of
  is_walked n r some p e w = simp (ne_eqb (length s) 0 some, le-ltb _ _ p, ← e) (w.is (suc (length s)) (omega arith))

  pub layout_empty : length s ≡ 0 → layout_refusal Good ≡ layout_tests s
  layout_empty e = ap layout_refusal (is_empty e)

  pub layout_long : (length s ≡ 0 → ⊥) → max_bytes < length s → layout_refusal (Err TooLong) ≡ layout_tests s
  layout_long some p = ap layout_refusal (is_too_long some p)

  pub layout_walked : (n : ℕ) (r : Layout) → (length s ≡ 0 → ⊥) → length s ≤ max_bytes → n ≡ name_count s → LayoutOfList n s max_depth 0 (length s) OneModule r
      → layout_refusal r ≡ layout_tests s
  layout_walked n r some p e w = ap layout_refusal (is_walked n r some p e w)

  -- a file of 1 to 15 bytes has no room for the head of a module
  no_head : (d : ℕ) → 1 ≤ d → length s < head_size → record_at (name_count s) s d 0 (length s) (due_in OneModule) ≡ Err (Fault 0)
  no_head d p few =
      record_step (name_count s) s d 0 (length s) (due_in OneModule) p
      ∙ ap (after_head (λ a b h. list_at (record_at (name_count s) s (d - 1)) s (suc (length s)) a b h)) (sym (head_room (name_count s) s 0 (length s) (due_in OneModule) (omega arith)))

  no_module : (one : ℕ → ℕ → Due → Layout) → one 0 (length s) (due_in OneModule) ≡ Err (Fault 0) → list_at one s (suc (length s)) 0 (length s) OneModule ≡ Err (Fault 0)
  unfolding list_at due_in is_done
  no_module one e = ap (λ (l : Layout). and_then l (λ _. list_at one s (length s) (stop_at s 0) (length s) (state_after (due_in OneModule) (shape_at s 0).class))) e

  pub layout_short : 1 ≤ length s → length s < head_size → layout_of s ≡ Err (Fault 0)
  unfolding layout_of
  layout_short some few =
      (λ i. answer_if (ne_eqb (length s) 0 (λ (z : length s ≡ 0). omega arith) i) Good (λ _.
      answer_if (le-ltb max_bytes (length s) (omega arith) i) (Err TooLong) (λ _.
      no_module (record_at (name_count s) s max_depth) (no_head max_depth (omega arith) few) i)))

-- only a good layout has no refusal
pub only_good : (l : Layout) → layout_refusal l ≡ none → l ≡ Good
unfolding layout_refusal
only_good (Ok u) e = refl
only_good (Err TooLong) e = absurd (let z : ◌≡◌ {A = ℕ} 0 1 = cc in omega arith)
only_good (Err (Fault p)) e = absurd (let z : ◌≡◌ {A = ℕ} 0 1 = cc in omega arith)
only_good (Err (TooDeep p)) e = absurd (let z : ◌≡◌ {A = ℕ} 0 1 = cc in omega arith)
