-- Fields that are converted together, and their cells. Assumes nothing.
use Prim.Native.Nat.{ℕ, ◌+◌, ◌-◌, ◌*◌, ◌<◌}
use mathlib.Core.Path.{◌≡◌, sym, ap, ◌∙◌, subst}
use mathlib.Core.List.{List}
use native.Mathlib.Omega.{arith}
use lib.ListN.{length, get_or, set, length-set}
use lib.Seq.{get_or-set_same, get_or-set_other}
use Rattle.types.specs.Ty.{field_kind}
use Rattle.types.specs.Table.{IsType}
use Rattle.types.specs.declared.Row.TheVariants.{Field}
use Rattle.types.proofs.Grow.{extends_type}
use Rattle.shape.specs.declared.Holds.TheVariants.{Fields}
use Rattle.node.specs.Fine.{FineNodes}
use Rattle.node.specs.declared.Nodes.{Nodes}
use Rattle.shape.proofs.Cases.{by_number}
use Rattle.walk.specs.declared.State.{State}
use Rattle.walk.specs.declared.Typed.{Typed}
use Rattle.walk.specs.Represents.{Lent, lent}
use Rattle.walk.specs.Post.{Makes}
use Rattle.walk.specs.Cells.{CellsMade, CellsOk}
use Rattle.walk.proofs.Cells.{cells_same, last_first}
use Rattle.convert.specs.Chunk.{chunk, field_cell, nodes_from, FieldsConvertedTo, FieldsChunk}
use Rattle.convert.specs.Post.{Ready, ConvertedNode, FieldsConverted, FieldOpened}
use Rattle.convert.specs.declared.Pass.{Pass}
use Rattle.convert.specs.declared.Chunk.{Chunk}
use Rattle.convert.specs.declared.FieldHead.{FieldHead}
use Rattle.convert.proofs.Heads.{ready_later, rest_fine, field_plain}
use Rattle.convert.proofs.Laws.{fields_cell}

module _ (s : List ℕ) (pass : Pass) (fields : Nodes) where
  -- None is converted yet
  pub converted_start : (kept : List ℕ) (C : Lent) → FineNodes s fields Fields → Ready s C → length kept ≡ 2 * chunk → FieldsConvertedTo s pass fields kept C C 0 fields.from
  unfolding CellsMade
  converted_start kept C f ready long =
      record {
        ready = ready;
        fine = f;
        long = long;
        few = omega arith;
        on = omega arith;
        known = λ i h. absurd (omega arith);
        plain = λ i h. absurd (omega arith);
        whole = λ o e w b later all w' b' r c.
            subst (λ (x : Typed). FieldsConverted s pass fields C (lent C.work o e w' b' x.state) x.ty) (sym c.2)
            (subst (λ (x : List ℕ). FieldsConverted s pass fields C (lent C.work o e w' x later.state) later.ty) (sym c.1)
            (subst (λ (x : List ℕ). FieldsConverted s pass fields C (lent C.work o e x b later.state) later.ty) (sym c.0) all));
      }

  module _ (kept work o₀ e₀ w₀ b₀ : List ℕ) (st₀ : State) (count at : ℕ) (o e w b : List ℕ) (st : State)
      (to : FieldsConvertedTo s pass fields kept (lent work o₀ e₀ w₀ b₀ st₀) (lent work o e w b st) count at) where
    -- One more field
    pub converted_on : count < chunk → (more : at < fields.end) (head : FieldHead) → FieldOpened s fields.depth at fields.end head → (o₁ e₁ w₁ b₁ : List ℕ) (t : Typed)
        → ConvertedNode s pass (record { at = at + 20; depth = fields.depth - 1 }) (lent work o e w b st) (lent work o₁ e₁ w₁ b₁ t.state) t.ty
        → FieldsConvertedTo s pass fields (set (set kept (2 * count) t.ty) (2 * count + 1) head.name) (lent work o₀ e₀ w₀ b₀ st₀) (lent work o₁ e₁ w₁ b₁ t.state) (count + 1) head.next
    converted_on l more head opened o₁ e₁ w₁ b₁ t inner =
        let d = fields.depth in
        let end = fields.end in
        let g = inner.walked.walked.grew in
        let half = set kept (2 * count) t.ty in
        let kept' = set half (2 * count + 1) head.name in
        let wide : length half ≡ 2 * chunk = length-set kept (2 * count) t.ty ∙ to.long in
        let other : (i : ℕ) → i < 2 * count → get_or kept' i 0 ≡ get_or kept i 0 =
        (λ i h. get_or-set_other half (2 * count + 1) i head.name 0 (λ q. omega arith) ∙ get_or-set_other kept (2 * count) i t.ty 0 (λ q. omega arith)) in
        let typed : get_or kept' (2 * count) 0 ≡ t.ty =
        get_or-set_other half (2 * count + 1) (2 * count) head.name 0 (λ q. omega arith) ∙ get_or-set_same kept (2 * count) t.ty 0 (omega (arith, to.long)) in
        let named : get_or kept' (2 * count + 1) 0 ≡ head.name = get_or-set_same half (2 * count + 1) head.name 0 (omega (arith, wide)) in
        record {
          ready = ready_later to.ready g inner.walked.walked.frame.long;
          fine = rest_fine s d at end to.fine more head.next opened.next;
          long = length-set half (2 * count + 1) head.name ∙ wide;
          few = omega arith;
          on = omega (arith, to.on, opened.type);
          known = λ i h. by_number i count
              (λ q. subst (IsType w₁ t.state.rows) (sym (ap (λ (x : ℕ). get_or kept' (2 * x) 0) q ∙ typed)) inner.walked.is)
              (λ q. subst (IsType w₁ t.state.rows) (sym (other (2 * i) (omega arith)))
              (extends_type w w₁ st.rows t.state.rows g.extends (get_or kept (2 * i) 0) (to.known i (omega arith))));
          plain = λ i h. by_number i count
              (λ q z. field_plain s d at end to.fine more head.name opened.name (sym (ap (λ (x : ℕ). get_or kept' (2 * x + 1) 0) q ∙ named) ∙ z))
              (λ q z. to.plain i (omega arith) (sym (other (2 * i + 1) (omega arith)) ∙ z));
          whole = λ o₂ e₂ w₂ b₂ later all w' b' r c.
              let f = last_first (field_cell kept') count w₂ b₂ later.state later.ty w' b' r c in
              let m : Makes (Field t.ty later.ty head.name) w₂ b₂ later.state f.rows f.index f.made =
              subst (λ (x : ℕ). Makes (Field x later.ty head.name) w₂ b₂ later.state f.rows f.index f.made) typed
              (subst (λ (x : ℕ). Makes (Field (get_or kept' (2 * count) 0) later.ty x) w₂ b₂ later.state f.rows f.index f.made) named f.makes) in
              to.whole o₂ e₂ f.rows f.index f.made
              (fields_cell s pass.names d at end pass.fill to.fine work o e w st to.ready more head opened o₁ e₁ w₁ t inner o₂ e₂ w₂ later all f.rows f.made m)
              w' b' r
              (cells_same (field_cell kept') (field_cell kept) count (λ i h x. λ j. Field (other (2 * i) (omega arith) j) x (other (2 * i + 1) (omega arith) j)) f.rows f.index f.made.state f.made.ty w' b' r f.others);
        }

-- The cells of the first can be made once the later ones are converted
pub cells_ok : (s : List ℕ) (pass : Pass) (fields : Nodes) (kept : List ℕ) (C : Lent) (work o e w b : List ℕ) (st : State) (first : Chunk)
    → FieldsChunk s pass fields kept C (lent work o e w b st) first → (o₁ e₁ w₁ b₁ : List ℕ) (later : Typed)
    → FieldsConverted s pass (nodes_from fields first.from) (lent work o e w b st) (lent work o₁ e₁ w₁ b₁ later.state) later.ty
    → CellsOk (field_cell kept) field_kind first.count w₁ b₁ later.state later.ty
cells_ok s pass fields kept C work o e w b st first h o₁ e₁ w₁ b₁ later all =
    let g = all.walked.grew in
    record {
      table = g.good.table;
      indexed = g.good.indexed;
      parts = λ i l v n x grew cell.
          let ty = get_or kept (2 * i) 0 in
          (extends_type w₁ v later.state.rows n grew ty (extends_type w w₁ st.rows later.state.rows g.extends ty (h.to.known i l)), cell, h.to.plain i l);
      sort = λ v n i x r q. q;
      later = all.is;
    }
