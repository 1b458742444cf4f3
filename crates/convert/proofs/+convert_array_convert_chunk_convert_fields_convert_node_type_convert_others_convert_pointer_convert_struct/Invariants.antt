-- `convert_node_type`, `convert_fields` and the functions of the kinds with parts call each other with the depth falling; in a list the bytes left fall.
use Rattle.std.proofs.Common.{◌-◌, ◌+◌, ◌*◌}
use Rattle.convert.specs.Chunk.{chunk, FieldsConvertedTo}
use Rattle.walk.specs.Moments.{moment}
use Rattle.walk.specs.Loans.{SameLoans}
use Rattle.convert.proofs.+convert_array_convert_chunk_convert_fields_convert_node_type_convert_others_convert_pointer_convert_struct.Given as goal

abbrev pub decreases-convert_array : goal.decreases-convert_array
decreases-convert_array l = l.node.depth * 262144

abbrev pub decreases-convert_chunk : goal.decreases-convert_chunk
decreases-convert_chunk l = l.fields.depth * 262144

abbrev pub decreases-convert_fields : goal.decreases-convert_fields
decreases-convert_fields l = l.fields.depth * 262144 + 2 * (l.fields.end - l.fields.from) + 1

abbrev pub decreases-convert_node_type : goal.decreases-convert_node_type
decreases-convert_node_type l = l.node.depth * 262144 + 1

abbrev pub decreases-convert_others : goal.decreases-convert_others
decreases-convert_others l = l.fields.depth * 262144 + 2 * (l.fields.end - l.fields.from) + 2

abbrev pub decreases-convert_pointer : goal.decreases-convert_pointer
decreases-convert_pointer l = l.node.depth * 262144

abbrev pub decreases-convert_struct : goal.decreases-convert_struct
decreases-convert_struct l = l.node.depth * 262144

abbrev pub invariant-convert_chunk-loop-count : goal.invariant-convert_chunk-loop-count
invariant-convert_chunk-loop-count l =
    FieldsConvertedTo l.s l.pass (record { from = l.initial.from; end = l.end; depth = l.depth }) l.kept (moment l.work l.initial.walk) (moment l.work l.walk) l.count l.from
    × SameLoans l.initial.walk l.walk

abbrev pub decreases-convert_chunk-loop-count : goal.decreases-convert_chunk-loop-count
decreases-convert_chunk-loop-count l = chunk - l.count
