use Rattle.error_messages.proofs.PieceLaws as laws
use Rattle.error_messages.proofs.length.piece_length.Goals as goal

pub literal_text-requires : goal.literal_text-requires
literal_text-requires c =
    let a = c.args in
    laws.literal_stands a.source.now.s.now a.source.now.built_in.now a.source.now.rows.now a.source.now.count a.byte a.word _ c.piece_of-piece.ensures c.requires.exists_as c.in-Literal.is

pub returns-in-Row : goal.returns-in-Row
returns-in-Row c = search laws.row_length

pub returns-in-Number : goal.returns-in-Number
returns-in-Number c = search laws.number_length

pub returns-in-Operator : goal.returns-in-Operator
returns-in-Operator c = search laws.operator_length_lem
