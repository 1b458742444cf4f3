-- What the walks over statements need: the statements that a statement holds decide what it does. Assumes nothing.
use Prim.Native.Nat.{ℕ, ◌+◌, ◌-◌, ◌≤◌, ◌<◌}
use mathlib.Core.Path.{◌≡◌, refl, sym, ◌∙◌, ap, subst}
use mathlib.Core.Logic.{◌⊎◌, inl, inr}
use mathlib.Core.Bool.{Bool, true, false, not, ◌||◌, ◌&&◌, or-false, and-false}
use mathlib.Core.List.{List}
use lib.ListN.{length}
use lib.Dec.{eqb}
use native.Mathlib.Omega.{arith}
use borrow.Author.Tests.{eqb-true, eqb-false, ne_eqb}
use Rattle.shape.specs.Shape.{a_statement, an_expression, due_in}
use Rattle.shape.specs.declared.Holds.TheVariants.{Statements}
use Rattle.shape.proofs.ShapeLaws.{statement_kind_lem as statement-range}
use Rattle.record_bytes.specs.Bytes.{word_at}
use Rattle.layout.specs.Layout.{kind_at, stop_at, max_bytes}
use Rattle.node.specs.Fine.{FineRecord, FineList, FineNode, FineNodes, inside_of, children_of}
use Rattle.node.specs.declared.Node.{Node}
use Rattle.node.specs.declared.Nodes.{Nodes}
use Rattle.node.specs.declared.Entered.{Entered}
use Rattle.trees.specs.Record.{statement_at, statements_at}
use Rattle.trees.specs.Tree.{Statement, block, expression, variable_declaration, assignment, compound_assignment, return, loop, while, break, «if», if_else, inline_assembly, no_statements, statement_then}
use Rattle.node.proofs.Open.{opened, SplitOne, split_may}
use Rattle.trees.proofs.Decode.{fine_in, fine_wide}
use Rattle.meaning.specs.Divergence.{find_break, do_all_paths_diverge}
use Rattle.trees.proofs.Statements.{second_at, third_at, statements_cons, statements_end, no_statements_lem, more_statements, statement_block, statement_loop, statement_while, statement_break, statement_return, statement_if, if_only, if_else_lem, IfAt, IfElseAt, statement_kind, kind_of_lem}
use Rattle.divergence.specs.InnerStatements.{inner_statements, InnerOf}

-- A break is the statement itself or in what it holds
find_break_inner : (t : Statement) → find_break t ≡ (eqb (statement_kind t) 72 || find_break (inner_statements t))
unfolding find_break statement_kind inner_statements
find_break_inner (block l members) = refl
find_break_inner (expression l e) = refl
find_break_inner (variable_declaration l name t value) = refl
find_break_inner (assignment l target value) = refl
find_break_inner (compound_assignment l target value) = refl
find_break_inner (return l value) = refl
find_break_inner (loop l body) = simp or-false
find_break_inner (while l condition body) = simp or-false
find_break_inner (break l) = refl
find_break_inner («if» l condition body) = simp or-false
find_break_inner (if_else l condition trueBody false_body) = simp or-false
find_break_inner (inline_assembly l) = refl
find_break_inner no_statements = refl
find_break_inner (statement_then s rest) = refl

-- But for a return, a loop and an if, a statement diverges as what it holds
diverge_inner : (t : Statement) → (statement_kind t ≡ 69 → ⊥) → (statement_kind t ≡ 70 → ⊥) → (statement_kind t ≡ 73 → ⊥) → do_all_paths_diverge t ≡ do_all_paths_diverge (inner_statements t)
unfolding do_all_paths_diverge statement_kind inner_statements
diverge_inner (block l members) a b c = refl
diverge_inner (expression l e) a b c = refl
diverge_inner (variable_declaration l name t value) a b c = refl
diverge_inner (assignment l target value) a b c = refl
diverge_inner (compound_assignment l target value) a b c = refl
diverge_inner (return l value) a b c = absurd (a refl)
diverge_inner (loop l body) a b c = absurd (b refl)
diverge_inner (while l condition body) a b c = simp or-false
diverge_inner (break l) a b c = refl
diverge_inner («if» l condition body) a b c = absurd (c refl)
diverge_inner (if_else l condition trueBody false_body) a b c = absurd (c refl)
diverge_inner (inline_assembly l) a b c = refl
diverge_inner no_statements a b c = refl
diverge_inner (statement_then s rest) a b c = refl

-- Only a block, a loop, a while and an if hold statements
no_inner : (t : Statement) → 64 ≤ statement_kind t → (statement_kind t ≡ 64 → ⊥) → (statement_kind t ≡ 70 → ⊥) → (statement_kind t ≡ 71 → ⊥) → (statement_kind t ≡ 73 → ⊥) → no_statements ≡ inner_statements t
unfolding statement_kind inner_statements
no_inner (block l members) p a b c d = absurd (a refl)
no_inner (expression l e) p a b c d = refl
no_inner (variable_declaration l name t value) p a b c d = refl
no_inner (assignment l target value) p a b c d = refl
no_inner (compound_assignment l target value) p a b c d = refl
no_inner (return l value) p a b c d = refl
no_inner (loop l body) p a b c d = absurd (b refl)
no_inner (while l condition body) p a b c d = absurd (c refl)
no_inner (break l) p a b c d = refl
no_inner («if» l condition body) p a b c d = absurd (d refl)
no_inner (if_else l condition trueBody false_body) p a b c d = absurd (d refl)
no_inner (inline_assembly l) p a b c d = refl
no_inner no_statements p a b c d = refl
no_inner (statement_then s rest) p a b c d = absurd (omega arith)

-- Bounds of a statement
pub record Bounds (s : List ℕ) (d at : ℕ) : Type 0 where
  pub deep : 1 ≤ d
  pub head : at + 16 ≤ stop_at s at
  pub stop : stop_at s at ≤ length s
  pub few : length s ≤ max_bytes

pub bounds : (s : List ℕ) (d at end c : ℕ) → FineRecord s d at end c → Bounds s d at
bounds s d at end c f =
    let o = opened s d at end c f in
    record { deep = o.deep; head = omega (arith, o.body); stop = omega (arith, o.room, o.ends); few = o.few }

empty_fine : (s : List ℕ) (d at end : ℕ) → at ≡ end → end ≤ length s → length s ≤ max_bytes → FineList s d at end Statements
empty_fine s d at end e l m = rw e (no_statements_lem s d end (record { starts = omega arith; ends = l; few = m }))

empty_is : (s : List ℕ) (d at end : ℕ) → at ≡ end → statements_at s d at end ≡ no_statements
empty_is s d at end e = ap (λ (x : ℕ). statements_at s d x end) e ∙ statements_end s d end

-- One statement, up to `end`
module _ (s : List ℕ) (d at end : ℕ) (f : FineRecord s d at (length s) a_statement) (e : stop_at s at ≡ end) (l : end ≤ length s) where
  inside : FineRecord s d at end a_statement
  inside = fine_in s d at (length s) end a_statement f (omega (arith, e)) l

  one_fine : FineList s d at end Statements
  one_fine = more_statements s d at end inside (empty_fine s d (stop_at s at) end e l f.part.few)

  one_is : statements_at s d at end ≡ statement_then (statement_at s d at) no_statements
  one_is = statements_cons s d at end a_statement inside ∙ ap (statement_then (statement_at s d at)) (empty_is s d (stop_at s at) end e)

-- The sides of an if: the first, then the second or nothing
record Sides (s : List ℕ) (d at : ℕ) : Type 0 where
  pub rest : FineList s (d - 1) (third_at s at) (stop_at s at) Statements
  pub members : statement_then (statement_at s (d - 1) (second_at s at)) (statements_at s (d - 1) (third_at s at) (stop_at s at)) ≡ inner_statements (statement_at s d at)
  pub diverge : do_all_paths_diverge (statement_at s d at)
      ≡ (do_all_paths_diverge (statement_at s (d - 1) (second_at s at)) && do_all_paths_diverge (statements_at s (d - 1) (third_at s at) (stop_at s at)))

sides_of_lem : (s : List ℕ) (d at : ℕ) → IfAt s d at → Sides s d at
unfolding inner_statements do_all_paths_diverge
sides_of_lem s d at i = go (eqb (third_at s at) (stop_at s at)) refl
  where
    only : third_at s at ≡ stop_at s at → Sides s d at
    only e =
        let z = empty_is s (d - 1) (third_at s at) (stop_at s at) e in
        let x = if_only s d at i e in
        record {
          rest = empty_fine s (d - 1) (third_at s at) (stop_at s at) e i.rest.part.ends i.rest.part.few;
          members = ap (statement_then (statement_at s (d - 1) (second_at s at))) z ∙ sym (ap inner_statements x);
          diverge = ap do_all_paths_diverge x ∙ sym (and-false (do_all_paths_diverge (statement_at s (d - 1) (second_at s at))))
              ∙ sym (ap (λ (u : Statement). do_all_paths_diverge (statement_at s (d - 1) (second_at s at)) && do_all_paths_diverge u) z);
        }

    both : IfElseAt s d at → Sides s d at
    both j =
        let z = one_is s (d - 1) (third_at s at) (stop_at s at) j.false_body j.ends i.rest.part.ends in
        record {
          rest = one_fine s (d - 1) (third_at s at) (stop_at s at) j.false_body j.ends i.rest.part.ends;
          members = ap (statement_then (statement_at s (d - 1) (second_at s at))) z ∙ sym (ap inner_statements j.is);
          diverge = ap do_all_paths_diverge j.is
              ∙ ap (λ (u : Bool). do_all_paths_diverge (statement_at s (d - 1) (second_at s at)) && u) (sym (or-false (do_all_paths_diverge (statement_at s (d - 1) (third_at s at)))))
              ∙ sym (ap (λ (u : Statement). do_all_paths_diverge (statement_at s (d - 1) (second_at s at)) && do_all_paths_diverge u) z);
        }

    go : (c : Bool) → eqb (third_at s at) (stop_at s at) ≡ c → Sides s d at
    go true e = only (eqb-true (third_at s at) (stop_at s at) e)
    go false e = both (if_else_lem s d at i (eqb-false (third_at s at) (stop_at s at) e))

-- `inner_start`, arm by arm
module _ (s : List ℕ) (d at : ℕ) (f : FineRecord s d at (length s) a_statement) (k stop : ℕ) (ek : k ≡ kind_at s at) (es : stop ≡ stop_at s at) where
  -- the answer, with the place x
  abbrev InnerFrom : ℕ → Type 0
  InnerFrom x = InnerOf s (record { at = at; depth = d }) (record { at = at; depth = d; kind = k; start = x; stop = stop })

  -- what that place is for a block, for a loop, after a condition, and else
  record PlaceOf (x : ℕ) : Type 0 where
    pub blocks : k ≡ 64 → x ≡ at + 20
    pub loops : k ≡ 70 → x ≡ at + 16
    pub sides : (k ≡ 71) ⊎ (k ≡ 73) → x ≡ second_at s at
    pub none : (k ≡ 64 → ⊥) → (k ≡ 70 → ⊥) → ((k ≡ 71) ⊎ (k ≡ 73) → ⊥) → x ≡ stop_at s at

  inner_of : (x : ℕ) → at + 16 ≤ x → FineList s (d - 1) x (stop_at s at) Statements → statements_at s (d - 1) x (stop_at s at) ≡ inner_statements (statement_at s d at) → PlaceOf x → InnerFrom x
  inner_of x l g m p =
      record {
        place = refl;
        levels = refl;
        kinds = ek;
        stops = es;
        deep = (bounds s d at (length s) a_statement f).deep;
        fine = rw es g;
        members = rw es m;
        low = l;
        blocks = p.blocks;
        loops = p.loops;
        sides = p.sides;
        none = λ a b c. p.none a b c ∙ sym es;
      }

  -- neither a while nor an if
  no_condition : {A : Type 0} (j : ℕ) → k ≡ j → (j ≡ 71 → ⊥) → (j ≡ 73 → ⊥) → (k ≡ 71) ⊎ (k ≡ 73) → A
  no_condition j e a b (inl x) = absurd (a (sym e ∙ x))
  no_condition j e a b (inr x) = absurd (b (sym e ∙ x))

  kind_at_lem : (j : ℕ) → k ≡ j → kind_at s at ≡ j
  kind_at_lem j e = sym ek ∙ e

  pub inner_block : k ≡ 64 → InnerFrom (at + 20)
  unfolding inner_statements
  inner_block e =
      let b = statement_block s d at (length s) f (kind_at_lem 64 e) in
      inner_of (at + 20) (omega arith) b.members (sym (ap inner_statements b.is)) (record {
        blocks = λ x. refl;
        loops = λ x. absurd (let z : ◌≡◌ {A = ℕ} 64 70 = sym e ∙ x in omega arith);
        sides = no_condition 64 e (λ x. omega arith) (λ x. omega arith);
        none = λ x y z. absurd (x e);
      })

  pub inner_loop : k ≡ 70 → InnerFrom (at + 16)
  unfolding inner_statements
  inner_loop e =
      let b = statement_loop s d at (length s) f (kind_at_lem 70 e) in
      let r = (bounds s d at (length s) a_statement f).stop in
      inner_of (at + 16) (omega arith) (one_fine s (d - 1) (at + 16) (stop_at s at) b.body b.ends r) (one_is s (d - 1) (at + 16) (stop_at s at) b.body b.ends r ∙ sym (ap inner_statements b.is)) (record {
        blocks = λ x. absurd (let z : ◌≡◌ {A = ℕ} 70 64 = sym e ∙ x in omega arith);
        loops = λ x. refl;
        sides = no_condition 70 e (λ x. omega arith) (λ x. omega arith);
        none = λ x y z. absurd (y e);
      })

  -- a while or an if starts with its condition
  pub condition_bounds : (k ≡ 71) ⊎ (k ≡ 73) → Bounds s (d - 1) (at + 16)
  condition_bounds (inl e) = bounds s (d - 1) (at + 16) (length s) an_expression (statement_while s d at (length s) f (kind_at_lem 71 e)).condition
  condition_bounds (inr e) = bounds s (d - 1) (at + 16) (length s) an_expression (statement_if s d at (length s) f (kind_at_lem 73 e)).condition

  after_condition : (c : (k ≡ 71) ⊎ (k ≡ 73)) → PlaceOf (second_at s at)
  after_condition c =
      record {
        blocks = λ x. no_condition 64 x (λ y. omega arith) (λ y. omega arith) c;
        loops = λ x. no_condition 70 x (λ y. omega arith) (λ y. omega arith) c;
        sides = λ x. refl;
        none = λ x y z. absurd (z c);
      }

  inner_second : (k ≡ 71) ⊎ (k ≡ 73) → InnerFrom (second_at s at)
  unfolding inner_statements
  inner_second (inl e) =
      let b = statement_while s d at (length s) f (kind_at_lem 71 e) in
      let r = (bounds s d at (length s) a_statement f).stop in
      let a = second_at s at in
      let c = (condition_bounds (inl e)).head in
      inner_of a (omega arith) (one_fine s (d - 1) a (stop_at s at) b.body b.ends r) (one_is s (d - 1) a (stop_at s at) b.body b.ends r ∙ sym (ap inner_statements b.is)) (after_condition (inl e))
  inner_second (inr e) =
      let i = statement_if s d at (length s) f (kind_at_lem 73 e) in
      let q = sides_of_lem s d at i in
      let a = second_at s at in
      let g = fine_in s (d - 1) a (length s) (stop_at s at) a_statement i.body i.rest.part.starts i.rest.part.ends in
      let c = (condition_bounds (inr e)).head in
      inner_of a (omega arith) (more_statements s (d - 1) a (stop_at s at) g q.rest) (statements_cons s (d - 1) a (stop_at s at) a_statement g ∙ q.members) (after_condition (inr e))

  pub inner_after : (w : ℕ) → w ≡ word_at s (at + 16) → (k ≡ 71) ⊎ (k ≡ 73) → InnerFrom (at + 16 + w)
  inner_after w ew c = rw ew (inner_second c)

  pub inner_none : (k ≡ 64 → ⊥) → (k ≡ 70 → ⊥) → ((k ≡ 71) ⊎ (k ≡ 73) → ⊥) → InnerFrom stop
  inner_none m p n =
      let q : statement_kind (statement_at s d at) ≡ k = kind_of_lem s d at (length s) f ∙ sym ek in
      let l : 64 ≤ k = rw ek (statement-range (kind_at s at) (opened s d at (length s) a_statement f).belongs).0 in
      let b = bounds s d at (length s) a_statement f in
      let a : (j : ℕ) → (k ≡ j → ⊥) → statement_kind (statement_at s d at) ≡ j → ⊥ = λ j w x. w (sym q ∙ x) in
      subst InnerFrom (sym es) (inner_of (stop_at s at) b.head (empty_fine s (d - 1) (stop_at s at) (stop_at s at) refl b.stop b.few)
      (empty_is s (d - 1) (stop_at s at) (stop_at s at) refl
      ∙ no_inner (statement_at s d at) (rw q l) (a 64 m) (a 70 p) (a 71 (λ x. n (inl x))) (a 73 (λ x. n (inr x))))
      (record { blocks = λ x. absurd (m x); loops = λ x. absurd (p x); sides = λ x. absurd (n x); none = λ x y z. refl }))

-- A statement by what it holds
module _ (s : List ℕ) (d at : ℕ) (f : FineRecord s d at (length s) a_statement) (i : Entered) (o : InnerOf s (record { at = at; depth = d }) i) where
  kind_is : (j : ℕ) → i.kind ≡ j → kind_at s at ≡ j
  kind_is j e = sym o.kinds ∙ e

  kind_not : (j : ℕ) → (i.kind ≡ j → ⊥) → statement_kind (statement_at s d at) ≡ j → ⊥
  kind_not j n e = n (o.kinds ∙ sym (kind_of_lem s d at (length s) f) ∙ e)

  pub break_here : i.kind ≡ 72 → true ≡ find_break (statement_at s d at)
  unfolding find_break
  break_here e = sym (ap find_break (statement_break s d at (length s) f (kind_is 72 e)))

  pub break_inside : (i.kind ≡ 72 → ⊥) → (r : Bool) → r ≡ find_break (statements_at s (d - 1) i.start i.stop) → r ≡ find_break (statement_at s d at)
  break_inside n r e =
      let t = statement_at s d at in
      e ∙ ap find_break o.members ∙ sym (find_break_inner t ∙ ap (λ (b : Bool). b || find_break (inner_statements t)) (ne_eqb (statement_kind t) 72 (kind_not 72 n)))

  pub return_diverges : i.kind ≡ 69 → true ≡ do_all_paths_diverge (statement_at s d at)
  unfolding do_all_paths_diverge
  return_diverges e = sym (ap do_all_paths_diverge (statement_return s d at (length s) f (kind_is 69 e)).is)

  -- a loop by what its body does
  loop_diverges : i.kind ≡ 70 → (b r : Bool) → b ≡ find_break (statements_at s (d - 1) i.start i.stop) → r ≡ do_all_paths_diverge (statements_at s (d - 1) i.start i.stop)
      → not b || r ≡ do_all_paths_diverge (statement_at s d at)
  unfolding do_all_paths_diverge find_break inner_statements
  loop_diverges e b r eb er =
      let l = statement_loop s d at (length s) f (kind_is 70 e) in
      let body = statement_at s (d - 1) (at + 16) in
      let x : b ≡ find_break body = eb ∙ ap find_break (o.members ∙ ap inner_statements l.is) ∙ or-false (find_break body) in
      let y : r ≡ do_all_paths_diverge body = er ∙ ap do_all_paths_diverge (o.members ∙ ap inner_statements l.is) ∙ or-false (do_all_paths_diverge body) in
      (λ j. not (x j) || y j) ∙ sym (ap do_all_paths_diverge l.is)

  pub endless_diverges : i.kind ≡ 70 → (b : Bool) → b ≡ find_break (statements_at s (d - 1) i.start i.stop) → b ≡ false → true ≡ do_all_paths_diverge (statement_at s d at)
  endless_diverges e b eb n =
      let r = do_all_paths_diverge (statements_at s (d - 1) i.start i.stop) in
      ap (λ (c : Bool). not c || r) (sym n) ∙ loop_diverges e b r eb refl

  pub breaking_diverges : i.kind ≡ 70 → (b : Bool) → b ≡ find_break (statements_at s (d - 1) i.start i.stop) → b ≡ true
      → (r : Bool) → r ≡ do_all_paths_diverge (statements_at s (d - 1) i.start i.stop) → r ≡ do_all_paths_diverge (statement_at s d at)
  breaking_diverges e b eb n r er = ap (λ (c : Bool). not c || r) (sym n) ∙ loop_diverges e b r eb er

  -- the statements that it holds, as `children` answers them
  module _ {c : Nodes} (q : c ≡ children_of i) where
    held : c ≡ record { from = i.start; end = i.stop; depth = d - 1 }
    held = q ∙ λ j. record { from = i.start; end = i.stop; depth = o.levels j - 1 }

    pub held_level : c.depth ≡ d - 1
    held_level j = (held j).depth

    pub held_fine : FineNodes s c Statements
    held_fine = subst (λ (n : Nodes). FineNodes s n Statements) (sym held) o.fine

    pub held_is : statements_at s c.depth c.from c.end ≡ statements_at s (d - 1) i.start i.stop
    held_is j = statements_at s (held j).depth (held j).from (held j).end

  -- an if by what its sides do; `inside` answers the first
  if_is : i.kind ≡ 73 → IfAt s d at
  if_is e = statement_if s d at (length s) f (kind_is 73 e)

  module _ (e : i.kind ≡ 73) {side : Node} (q : side ≡ inside_of i) where
    pub side_level : side.depth ≡ d - 1
    side_level = (λ j. (q j).depth) ∙ λ j. o.levels j - 1

    side_place : side.at ≡ second_at s at
    side_place = (λ j. (q j).at) ∙ o.sides (inr e)

    pub side_fine : FineNode s side a_statement
    side_fine = rw (side_level, side_place) (if_is e).body

    pub side_bounds : Bounds s side.depth side.at
    side_bounds = bounds s side.depth side.at (length s) a_statement side_fine

    pub other_fine : (w : ℕ) → w ≡ word_at s side.at → FineList s side.depth (side.at + w) i.stop Statements
    other_fine w ew = rw (ew, side_level, side_place, o.stops) (sides_of_lem s d at (if_is e)).rest

    module _ (b : Bool) (eb : b ≡ do_all_paths_diverge (statement_at s side.depth side.at)) where
      sides_diverge : (w : ℕ) → w ≡ word_at s side.at → (r : Bool) → r ≡ do_all_paths_diverge (statements_at s side.depth (side.at + w) i.stop) → b && r ≡ do_all_paths_diverge (statement_at s d at)
      sides_diverge w ew r er =
          let p : side.at + w ≡ third_at s at = ap (λ (y : ℕ). side.at + y) ew ∙ ap (λ (y : ℕ). stop_at s y) side_place in
          let x : b ≡ do_all_paths_diverge (statement_at s (d - 1) (second_at s at)) = eb ∙ λ j. do_all_paths_diverge (statement_at s (side_level j) (side_place j)) in
          let y : r ≡ do_all_paths_diverge (statements_at s (d - 1) (third_at s at) (stop_at s at)) =
          er ∙ λ j. do_all_paths_diverge (statements_at s (side_level j) (p j) (o.stops j)) in
          (λ j. x j && y j) ∙ sym (sides_of_lem s d at (if_is e)).diverge

      pub side_goes_on : b ≡ false → false ≡ do_all_paths_diverge (statement_at s d at)
      side_goes_on n =
          let w = word_at s side.at in
          let r = do_all_paths_diverge (statements_at s side.depth (side.at + w) i.stop) in
          ap (λ (c : Bool). c && r) (sym n) ∙ sides_diverge w refl r refl

      pub both_diverge : b ≡ true → (w : ℕ) → w ≡ word_at s side.at → (r : Bool) → r ≡ do_all_paths_diverge (statements_at s side.depth (side.at + w) i.stop) → r ≡ do_all_paths_diverge (statement_at s d at)
      both_diverge n w ew r er = ap (λ (c : Bool). c && r) (sym n) ∙ sides_diverge w ew r er

  pub others_diverge : (i.kind ≡ 69 → ⊥) → (i.kind ≡ 70 → ⊥) → (i.kind ≡ 73 → ⊥) → (r : Bool) → r ≡ do_all_paths_diverge (statements_at s (d - 1) i.start i.stop) → r ≡ do_all_paths_diverge (statement_at s d at)
  others_diverge a b c r e = e ∙ ap do_all_paths_diverge o.members ∙ sym (diverge_inner (statement_at s d at) (kind_not 69 a) (kind_not 70 b) (kind_not 73 c))

-- A question that holds of a list if it holds of a member
pub record Any (g : Statement → Bool) : Type 0 where
  pub none : g no_statements ≡ false
  pub more : (t rest : Statement) → g (statement_then t rest) ≡ (g t || g rest)

pub any_break : Any find_break
unfolding find_break
any_break = record { none = refl; more = λ t rest. refl }

pub any_diverges : Any do_all_paths_diverge
unfolding do_all_paths_diverge
any_diverges = record { none = refl; more = λ t rest. refl }

-- Its walk over a list: the list from `at` on answers for the whole
pub record Scanned (g : Statement → Bool) (s : List ℕ) (d from end at : ℕ) : Type 0 where
  pub rest : FineList s d at end Statements
  pub whole : g (statements_at s d from end) ≡ g (statements_at s d at end)

module _ (g : Statement → Bool) (y : Any g) (s : List ℕ) (d from end : ℕ) where
  pub scan_start : FineList s d from end Statements → Scanned g s d from end from
  scan_start f = record { rest = f; whole = refl }

  module _ (at : ℕ) (c : Scanned g s d from end at) where
    pub scan_done : end ≤ at → false ≡ g (statements_at s d from end)
    scan_done p =
        let e : at ≡ end = omega (arith, c.rest.part.starts) in
        sym (c.whole ∙ ap g (empty_is s d at end e) ∙ y.none)

    module _ (p : at < end) where
      scan_split : SplitOne s d at end a_statement Statements
      unfolding due_in
      scan_split = split_may s d at end Statements a_statement Statements refl (omega arith) c.rest

      pub scan_first : FineRecord s d at (length s) a_statement
      scan_first = fine_wide s d at end a_statement scan_split.first

      pub scan_bounds : Bounds s d at
      scan_bounds = bounds s d at (length s) a_statement scan_first

      scan_step : g (statements_at s d from end) ≡ (g (statement_at s d at) || g (statements_at s d (stop_at s at) end))
      scan_step = c.whole ∙ ap g (statements_cons s d at end a_statement scan_split.first) ∙ y.more (statement_at s d at) (statements_at s d (stop_at s at) end)

      module _ (b : Bool) (eb : b ≡ g (statement_at s d at)) where
        pub scan_found : b ≡ true → true ≡ g (statements_at s d from end)
        scan_found n = sym (scan_step ∙ ap (λ (x : Bool). x || g (statements_at s d (stop_at s at) end)) (sym eb ∙ n))

        pub scan_on : b ≡ false → (w : ℕ) → w ≡ word_at s at → Scanned g s d from end (at + w)
        scan_on n w ew =
            rw ew (record { rest = scan_split.rest; whole = scan_step ∙ ap (λ (x : Bool). x || g (statements_at s d (stop_at s at) end)) (sym eb ∙ n) })
