use Rattle.std.proofs.Common.{refl, sym, ◌∙◌, arith, subst, ◌≡◌}
use Rattle.convert.specs.Post.{settled}
use Rattle.walk.specs.Typed.{typed}
use Rattle.walk.proofs.Loans as loans
use Rattle.convert.proofs.Laws as laws
use Rattle.convert.proofs.Chunks as chunks
use Rattle.convert.proofs.Heads as heads
use Rattle.convert.proofs.+convert_array_convert_chunk_convert_fields_convert_node_type_convert_others_convert_pointer_convert_struct.Goals as goal

pub convert_array-word-size-requires : goal.convert_array-word-size-requires
convert_array-word-size-requires t c = omega (arith, heads.size_room _ _ _ c.requires.fine_node c.requires.at_value)

pub convert_array-overflow_sub-depth : goal.convert_array-overflow_sub-depth
convert_array-overflow_sub-depth t c = omega (arith, heads.bounds _ _ _ c.requires.fine_node)

pub convert_array-convert_node_type-element-requires :
    goal.convert_array-convert_node_type-element-requires
convert_array-convert_node_type-element-requires t c = (omega (arith, heads.bounds _ _ _ c.requires.fine_node, c.decreases), (heads.element_fine _ _ _ c.requires.fine_node c.requires.at_value, c.requires.ready))

pub convert_array-settle_row-requires-clause-at_in_bounds :
    goal.convert_array-settle_row-requires-clause-at_in_bounds
convert_array-settle_row-requires-clause-at_in_bounds t c = omega (arith, heads.bounds _ _ _ c.requires.fine_node, c.requires.ready.long, c.convert_node_type-element.ensures.effect.walked.walked.frame.long)

pub convert_array-returns-clause-effect : goal.convert_array-returns-clause-effect
convert_array-returns-clause-effect t c = rw (loans.after_made c.settle_row.ensures.loans c.args.work.now) (laws.converted_array _ _ _ _ _ c.requires.fine_node _ _ _ _ _ c.requires.ready _ _ _ (typed c.convert_node_type-element.result c.convert_node_type-element.new.walk.state) c.requires.at_value _ c.word-size.ensures c.convert_node_type-element.ensures.effect _ _ _ c.settle_row.ensures.effect)

pub convert_chunk-loop-count-init : goal.convert_chunk-loop-count-init
convert_chunk-loop-count-init t c = (chunks.converted_start _ _ _ _ _ c.requires.fine_nodes.0 c.requires.ready c.requires.fine_nodes.2, loans.same_refl _)

pub convert_chunk-returns-then-end-from-clause-effect : goal.convert_chunk-returns-then-end-from-clause-effect
convert_chunk-returns-then-end-from-clause-effect t c = record { to = c.loop-count.invariant.0; some = omega (arith, c.if-end-from.true, c.requires.fine_nodes.1) }

pub convert_chunk-field_head-head-requires-clause-fine_nodes :
    goal.convert_chunk-field_head-head-requires-clause-fine_nodes
convert_chunk-field_head-head-requires-clause-fine_nodes t c = c.loop-count.invariant.0.fine

pub convert_chunk-convert_node_type-field-requires :
    goal.convert_chunk-convert_node_type-field-requires
convert_chunk-convert_node_type-field-requires t c = (omega (arith, c.decreases, c.field_head-head.ensures), (heads.type_fine _ _ _ _ c.loop-count.invariant.0.fine c.if-end-from.false, c.loop-count.invariant.0.ready))

pub convert_chunk-loop-count-preserved : goal.convert_chunk-loop-count-preserved
convert_chunk-loop-count-preserved t c = (chunks.converted_on _ _ _ _ _ _ _ _ _ _ _ _ _ _ _ _ _ c.loop-count.invariant.0 c.loop-count-test.true c.if-end-from.false c.field_head-head.result c.field_head-head.ensures _ _ _ _ (typed c.convert_node_type-field.result c.convert_node_type-field.new.walk.state) c.convert_node_type-field.ensures.effect, loans.same_then c.loop-count.invariant.1 c.convert_node_type-field.ensures.loans)

pub convert_chunk-returns-clause-effect : goal.convert_chunk-returns-clause-effect
convert_chunk-returns-clause-effect t c = record { to = c.loop-count.invariant.0; some = omega (arith, c.loop-count.invariant.0.on, c.loop-count-test.false) }

pub convert_fields-returns-then-end-fields-clause-effect : goal.convert_fields-returns-then-end-fields-clause-effect
convert_fields-returns-then-end-fields-clause-effect t c = laws.fields_end_lem _ _ _ _ _ _ c.requires.fine_nodes _ _ _ _ _ c.requires.ready c.if-end-fields.true

pub convert_fields-convert_chunk-first-requires : goal.convert_fields-convert_chunk-first-requires
convert_fields-convert_chunk-first-requires t c = (omega (arith, c.decreases), ((c.requires.fine_nodes, c.if-end-fields.false, refl), c.requires.ready))

pub convert_fields-convert_others-rest-requires : goal.convert_fields-convert_others-rest-requires
convert_fields-convert_others-rest-requires t c = (omega (arith, c.decreases, c.convert_chunk-first.ensures.effect.some, c.if-end-fields.false), (c.convert_chunk-first.ensures.effect.to.fine, c.convert_chunk-first.ensures.effect.to.ready))

pub convert_fields-make_fields-requires-clause-cells_ok :
    goal.convert_fields-make_fields-requires-clause-cells_ok
convert_fields-make_fields-requires-clause-cells_ok t c = chunks.cells_ok _ _ _ _ _ _ _ _ _ _ _ c.convert_chunk-first.result c.convert_chunk-first.ensures.effect _ _ _ _ (typed c.convert_others-rest.result c.convert_others-rest.new.walk.state) c.convert_others-rest.ensures.effect

pub convert_fields-returns-clause-effect : goal.convert_fields-returns-clause-effect
convert_fields-returns-clause-effect t c = rw (loans.after_rows c.make_fields.ensures.loans c.args.work.now) (c.convert_chunk-first.ensures.effect.to.whole _ _ _ _ (typed c.convert_others-rest.result c.convert_others-rest.new.walk.state) c.convert_others-rest.ensures.effect _ _ (typed c.make_fields.result c.make_fields.new.walk.state) c.make_fields.ensures.effect)

pub convert_node_type-named_type-named-requires-clause-at_in_bounds :
    goal.convert_node_type-named_type-named-requires-clause-at_in_bounds
convert_node_type-named_type-named-requires-clause-at_in_bounds t c = heads.name_room _ _ _ c.requires.fine_node (sym c.type_kind-kind.ensures.is ∙ c.in-16.is)

pub convert_node_type-named_type-named-requires-clause-at_bound :
    goal.convert_node_type-named_type-named-requires-clause-at_bound
convert_node_type-named_type-named-requires-clause-at_bound t c = heads.name_known _ _ _ c.requires.fine_node (sym c.type_kind-kind.ensures.is ∙ c.in-16.is)

pub convert_node_type-convert_pointer-requires : goal.convert_node_type-convert_pointer-requires
convert_node_type-convert_pointer-requires t c = (omega (arith, c.decreases), (c.requires.fine_node, (sym c.type_kind-kind.ensures.is ∙ c.in-18.is, c.requires.ready)))

pub convert_node_type-convert_array-requires : goal.convert_node_type-convert_array-requires
convert_node_type-convert_array-requires t c = (omega (arith, c.decreases), (c.requires.fine_node, (sym c.type_kind-kind.ensures.is ∙ c.in-19.is, c.requires.ready)))

pub convert_node_type-convert_struct-requires : goal.convert_node_type-convert_struct-requires
convert_node_type-convert_struct-requires t c = (omega (arith, c.decreases), (c.requires.fine_node, (heads.is_struct _ _ _ c.requires.fine_node _ c.type_kind-kind.ensures.is (λ q. omega arith) (λ q. omega arith) (λ q. omega arith) (λ q. omega arith), c.requires.ready)))

pub convert_node_type-returns-in-16-clause-effect : goal.convert_node_type-returns-in-16-clause-effect
convert_node_type-returns-in-16-clause-effect t c = rw (loans.after_output c.settle.ensures.loans c.args.work.now) (rw c.named_type-named.ensures.loans.rows_kept (rw c.named_type-named.ensures.loans.index_kept (laws.converted_name _ _ _ _ _ c.requires.fine_node _ _ _ _ _ c.requires.ready (sym c.type_kind-kind.ensures.is ∙ c.in-16.is) _ _ _ c.named_type-named.ensures.effect (subst (λ x. c.settle.new.walk.output.now ≡ settled c.args.pass.fill x c.args.node.at c.named_type-named.result) c.named_type-named.ensures.loans.output_kept c.settle.ensures.effect))))

pub convert_node_type-returns-in-17-clause-effect : goal.convert_node_type-returns-in-17-clause-effect
convert_node_type-returns-in-17-clause-effect t c = rw (loans.after_output c.settle-in-17.ensures.loans c.args.work.now) (laws.converted_void _ _ _ _ _ c.requires.fine_node _ _ _ _ _ c.requires.ready (sym c.type_kind-kind.ensures.is ∙ c.in-17.is) _ c.settle-in-17.ensures.effect)

pub convert_others-returns-then-fields-clause-effect : goal.convert_others-returns-then-fields-clause-effect
convert_others-returns-then-fields-clause-effect t c = laws.fields_end_lem _ _ _ _ _ _ c.requires.fine_nodes _ _ _ _ _ c.requires.ready c.if-fields.true

pub convert_others-convert_fields-requires : goal.convert_others-convert_fields-requires
convert_others-convert_fields-requires t c = (omega (arith, c.decreases), (c.requires.fine_nodes, c.requires.ready))

pub convert_pointer-overflow_sub-depth : goal.convert_pointer-overflow_sub-depth
convert_pointer-overflow_sub-depth t c = omega (arith, heads.bounds _ _ _ c.requires.fine_node)

pub convert_pointer-convert_node_type-pointee-requires :
    goal.convert_pointer-convert_node_type-pointee-requires
convert_pointer-convert_node_type-pointee-requires t c = (omega (arith, heads.bounds _ _ _ c.requires.fine_node, c.decreases), (heads.pointee_fine _ _ _ c.requires.fine_node c.requires.at_value, c.requires.ready))

pub convert_pointer-settle_row-requires-clause-at_in_bounds :
    goal.convert_pointer-settle_row-requires-clause-at_in_bounds
convert_pointer-settle_row-requires-clause-at_in_bounds t c = omega (arith, heads.bounds _ _ _ c.requires.fine_node, c.requires.ready.long, c.convert_node_type-pointee.ensures.effect.walked.walked.frame.long)

pub convert_pointer-returns-clause-effect : goal.convert_pointer-returns-clause-effect
convert_pointer-returns-clause-effect t c = rw (loans.after_made c.settle_row.ensures.loans c.args.work.now) (laws.converted_pointer _ _ _ _ _ c.requires.fine_node _ _ _ _ _ c.requires.ready _ _ _ (typed c.convert_node_type-pointee.result c.convert_node_type-pointee.new.walk.state) c.requires.at_value c.convert_node_type-pointee.ensures.effect _ _ _ c.settle_row.ensures.effect)

pub convert_struct-length_at-requires : goal.convert_struct-length_at-requires
convert_struct-length_at-requires t c = omega (arith, heads.bounds _ _ _ c.requires.fine_node)

pub convert_struct-overflow_sub-depth : goal.convert_struct-overflow_sub-depth
convert_struct-overflow_sub-depth t c = omega (arith, heads.bounds _ _ _ c.requires.fine_node)

pub convert_struct-convert_fields-fields-requires :
    goal.convert_struct-convert_fields-fields-requires
convert_struct-convert_fields-fields-requires t c = (omega (arith, heads.bounds _ _ _ c.requires.fine_node, c.length_at.ensures, c.decreases), (heads.fields_fine _ _ _ c.requires.fine_node c.requires.at_value _ c.length_at.ensures, c.requires.ready))

pub convert_struct-settle_row-requires-clause-at_in_bounds :
    goal.convert_struct-settle_row-requires-clause-at_in_bounds
convert_struct-settle_row-requires-clause-at_in_bounds t c = omega (arith, heads.bounds _ _ _ c.requires.fine_node, c.requires.ready.long, c.convert_fields-fields.ensures.effect.walked.frame.long)

pub convert_struct-returns-clause-effect : goal.convert_struct-returns-clause-effect
convert_struct-returns-clause-effect t c = rw (loans.after_made c.settle_row.ensures.loans c.args.work.now) (laws.converted_struct _ _ _ _ _ c.requires.fine_node _ _ _ _ _ c.requires.ready _ _ _ (typed c.convert_fields-fields.result c.convert_fields-fields.new.walk.state) c.requires.at_value _ c.length_at.ensures c.convert_fields-fields.ensures.effect _ _ _ c.settle_row.ensures.effect)
