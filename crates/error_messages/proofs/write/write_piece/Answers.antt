use Rattle.error_messages.proofs.PieceLaws as laws
use Rattle.error_messages.proofs.write.write_piece.Goals as goal

pub literal_text-requires : goal.literal_text-requires
literal_text-requires c =
    let a = c.args in
    laws.literal_stands a.source.now.s.now a.source.now.built_in.now a.source.now.rows.now a.source.now.count a.byte a.word _ c.piece_of-piece.ensures c.requires.exists_as c.in-Literal.is
