-- Parameters that are converted together, and their cells. Assumes nothing.
use Prim.Native.Nat.{ℕ, ◌+◌, ◌-◌, ◌≤◌, ◌<◌}
use mathlib.Core.Path.{◌≡◌, sym, ap, ◌∙◌, subst}
use mathlib.Core.Bool.{false, true≢false}
use Rattle.std.specs.Prelude.{Option, Some, None}
use Rattle.std.specs.Option.{is_some}
use mathlib.Core.List.{List, []}
use native.Mathlib.Omega.{arith}
use lib.ListN.{length, get_or, set, length-set}
use lib.Seq.{get_or-set_same, get_or-set_other}
use Rattle.types.specs.Ty.{argument_kind}
use Rattle.types.specs.Table.{IsType}
use Rattle.types.specs.declared.Row.TheVariants.{Argument}
use Rattle.types.proofs.Grow.{extends_type}
use Rattle.shape.specs.declared.Holds.TheVariants.{Parameters}
use Rattle.trees.specs.Record.{parameters_at}
use Rattle.node.specs.Fine.{FineNodes}
use Rattle.node.specs.declared.Nodes.{Nodes}
use Rattle.names.specs.declared.BuiltIns.{BuiltIns}
use Rattle.shape.proofs.Cases.{by_number}
use Rattle.walk.specs.declared.State.{State}
use Rattle.walk.specs.declared.Typed.{Typed}
use Rattle.walk.specs.Represents.{Lent, lent}
use Rattle.walk.specs.Post.{Makes}
use Rattle.walk.specs.Cells.{CellsMade, CellsOk}
use Rattle.walk.proofs.Cells.{cells_same, last_first}
use Rattle.convert.specs.Chunk.{nodes_from}
use Rattle.convert.specs.declared.Chunk.{Chunk}
use Rattle.convert.specs.Post.{Ready, ConvertedNode}
use Rattle.convert.proofs.Heads.{ready_later}
use Rattle.declare.specs.Chunk.{chunk, argument_cell, HasParameter, ParametersConvertedTo, ParametersChunk}
use Rattle.declare.specs.Post.{ParameterFound, ParameterEnd, ConvertedParameters}
use Rattle.declare.proofs.Parameters.{parameters_cell}

module _ (s : List ℕ) (list : Nodes) where
  -- A parameter that ends somewhere is one. Cited by nothing here now
  pub has_parameter : (next : ℕ) → ParameterEnd s list.depth list.from list.end (Some next) → HasParameter s list
  has_parameter next found none = let e = sym none ∙ found.tree in let z : ◌≡◌ {A = ℕ} 0 1 = cc in omega arith

  -- Where none is left, some were converted. Cited by nothing here now
  pub some_converted : (count at : ℕ) → HasParameter s list → (count ≡ 0 → at ≡ list.from) → (r : Option ℕ) → ParameterEnd s list.depth at list.end r → is_some r ≡ false → 1 ≤ count
  some_converted count at has start (Some next) found none = absurd (true≢false none)
  some_converted count at has start None found none =
      by_number count 0
      (λ e. absurd (has (subst (λ (x : ℕ). parameters_at s list.depth x list.end ≡ []) (start e) found)))
      (λ e. omega arith)

  pub no_parameter : (r : Option ℕ) → ParameterEnd s list.depth list.from list.end r → is_some r ≡ false → parameters_at s list.depth list.from list.end ≡ []
  no_parameter (Some next) found none = absurd (true≢false none)
  no_parameter None found none = found

module _ (s : List ℕ) (names : BuiltIns) (list : Nodes) where
  -- None is converted yet
  pub converted_start : (kept : List ℕ) (C : Lent) → FineNodes s list Parameters → Ready s C → length kept ≡ chunk → ParametersConvertedTo s names list kept C C 0 list.from
  unfolding CellsMade
  converted_start kept C f ready long =
      record {
        ready = ready;
        fine = f;
        long = long;
        few = omega arith;
        on = omega arith;
        inside = λ h. absurd (omega arith);
        known = λ i h. absurd (omega arith);
        whole = λ o e w b later all w' b' r c.
            subst (λ (x : Typed). ConvertedParameters s names list C (lent C.work o e w' b' x.state) x.ty) (sym c.2)
            (subst (λ (x : List ℕ). ConvertedParameters s names list C (lent C.work o e w' x later.state) later.ty) (sym c.1)
            (subst (λ (x : List ℕ). ConvertedParameters s names list C (lent C.work o e x b later.state) later.ty) (sym c.0) all));
      }

  module _ (kept work o₀ e₀ w₀ b₀ : List ℕ) (st₀ : State) (count at : ℕ) (o e w b : List ℕ) (st : State)
      (to : ParametersConvertedTo s names list kept (lent work o₀ e₀ w₀ b₀ st₀) (lent work o e w b st) count at) where
    -- One more parameter
    pub converted_on : count < chunk → (next : ℕ) (p : ParameterFound s list.depth at list.end next) → (o₁ e₁ w₁ b₁ : List ℕ) (t : Typed)
        → ConvertedNode s (record { names = names; fill = false }) (record { at = at + 20; depth = list.depth - 1 }) (lent work o e w b st) (lent work o₁ e₁ w₁ b₁ t.state) t.ty
        → ParametersConvertedTo s names list (set kept count t.ty) (lent work o₀ e₀ w₀ b₀ st₀) (lent work o₁ e₁ w₁ b₁ t.state) (count + 1) next
    converted_on l next p o₁ e₁ w₁ b₁ t inner =
        let g = inner.walked.walked.grew in
        let kept' = set kept count t.ty in
        let here : get_or kept' count 0 ≡ t.ty = get_or-set_same kept count t.ty 0 (omega (arith, to.long)) in
        let other : (i : ℕ) → i < count → get_or kept' i 0 ≡ get_or kept i 0 = (λ i h. get_or-set_other kept count i t.ty 0 (λ q. omega arith)) in
        record {
          ready = ready_later to.ready g inner.walked.walked.frame.long;
          fine = p.rest;
          long = length-set kept count t.ty ∙ to.long;
          few = omega arith;
          on = omega (arith, to.on, p.head);
          inside = λ h. p.fits;
          known = λ i h. by_number i count
              (λ q. subst (IsType w₁ t.state.rows) (sym (ap (λ (x : ℕ). get_or kept' x 0) q ∙ here)) inner.walked.is)
              (λ q. subst (IsType w₁ t.state.rows) (sym (other i (omega arith)))
              (extends_type w w₁ st.rows t.state.rows g.extends (get_or kept i 0) (to.known i (omega arith))));
          whole = λ o₂ e₂ w₂ b₂ later all w' b' r c.
              let f = last_first (argument_cell kept') count w₂ b₂ later.state later.ty w' b' r c in
              let m : Makes (Argument t.ty later.ty) w₂ b₂ later.state f.rows f.index f.made =
              subst (λ (x : ℕ). Makes (Argument x later.ty) w₂ b₂ later.state f.rows f.index f.made) here f.makes in
              to.whole o₂ e₂ f.rows f.index f.made
              (parameters_cell s names list.depth at list.end work o e w st to.ready next p o₁ e₁ w₁ t inner o₂ e₂ w₂ later all f.rows f.made m)
              w' b' r
              (cells_same (argument_cell kept') (argument_cell kept) count (λ i h x. ap (λ (y : ℕ). Argument y x) (other i h)) f.rows f.index f.made.state f.made.ty w' b' r f.others);
        }

    -- As many as have room
    pub all_converted : chunk ≤ count → ParametersChunk s names list kept (lent work o₀ e₀ w₀ b₀ st₀) (lent work o e w b st) (record { count = chunk; from = at })
    all_converted h =
        let C = lent work o₀ e₀ w₀ b₀ st₀ in
        let C' = lent work o e w b st in
        let e : count ≡ chunk = omega (arith, to.few) in
        record { to = subst (λ (x : ℕ). ParametersConvertedTo s names list kept C C' x at) e to; some = omega arith }

-- The cells of the first can be made once the later ones are converted
pub cells_ok : (s : List ℕ) (names : BuiltIns) (list : Nodes) (kept : List ℕ) (C : Lent) (work o e w b : List ℕ) (st : State) (first : Chunk)
    → ParametersChunk s names list kept C (lent work o e w b st) first → (o₁ e₁ w₁ b₁ : List ℕ) (later : Typed)
    → ConvertedParameters s names (nodes_from list first.from) (lent work o e w b st) (lent work o₁ e₁ w₁ b₁ later.state) later.ty
    → CellsOk (argument_cell kept) argument_kind first.count w₁ b₁ later.state later.ty
cells_ok s names list kept C work o e w b st first h o₁ e₁ w₁ b₁ later all =
    let g = all.walked.grew in
    record {
      table = g.good.table;
      indexed = g.good.indexed;
      parts = λ i l v n x grew cell.
          let ty = get_or kept i 0 in
          (extends_type w₁ v later.state.rows n grew ty (extends_type w w₁ st.rows later.state.rows g.extends ty (h.to.known i l)), cell);
      sort = λ v n i x r q. q;
      later = all.is;
    }
