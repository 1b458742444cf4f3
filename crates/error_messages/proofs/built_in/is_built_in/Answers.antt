use mathlib.Core.Path.{◌≡◌, ◌∙◌}
use mathlib.Core.Bool.{◌||◌}
use Prim.Native.String.{String}
use Rattle.text.specs.Text.{ascii}
use Rattle.names.specs.Names.{same_bytes}
use Rattle.error_messages.proofs.BuiltInLaws as laws
use Rattle.error_messages.proofs.BuiltInLaws.{or_true, or_false}
use Rattle.error_messages.proofs.built_in.is_built_in.Goals as goal
use Rattle.error_messages.proofs.built_in.is_built_in.Goals.{then-same_bytes, else-same_bytes, then-same_bytes-2, else-same_bytes-2}

pub returns-then-same_bytes-3 : goal.returns-then-same_bytes-3
returns-then-same_bytes-3 c =
    let is = λ (t : String). same_bytes c.name_text-text.result.now (ascii t) in
    let two : c.if-same_bytes.value ≡ (is "u16" || is "i16") =
    elim c.if-same_bytes.branch [
      | then-same_bytes w ↦ w.value-is ∙ or_true _ w.if-same_bytes.true c.same_bytes.ensures
      | else-same_bytes w ↦ w.value-is ∙ w.same_bytes-else-same_bytes.ensures ∙ or_false _ w.if-same_bytes.false c.same_bytes.ensures
    ] in
    let three : c.if-same_bytes-2.value ≡ ((is "u16" || is "i16") || is "bool") =
    elim c.if-same_bytes-2.branch [
      | then-same_bytes-2 w ↦ w.value-is ∙ or_true _ w.if-same_bytes-2.true two
      | else-same_bytes-2 w ↦ w.value-is ∙ w.same_bytes-else-same_bytes-2.ensures ∙ or_false _ w.if-same_bytes-2.false two
    ] in
    laws.decided _ _ _ c.requires.s_len_bound.0 _ c.name_text-text.ensures _ c.requires.names_value c.if-names-name.false _ (or_true _ c.if-same_bytes-3.true three)

pub returns-else-same_bytes-3 : goal.returns-else-same_bytes-3
returns-else-same_bytes-3 c =
    let is = λ (t : String). same_bytes c.name_text-text.result.now (ascii t) in
    let two : c.if-same_bytes.value ≡ (is "u16" || is "i16") =
    elim c.if-same_bytes.branch [
      | then-same_bytes w ↦ w.value-is ∙ or_true _ w.if-same_bytes.true c.same_bytes.ensures
      | else-same_bytes w ↦ w.value-is ∙ w.same_bytes-else-same_bytes.ensures ∙ or_false _ w.if-same_bytes.false c.same_bytes.ensures
    ] in
    let three : c.if-same_bytes-2.value ≡ ((is "u16" || is "i16") || is "bool") =
    elim c.if-same_bytes-2.branch [
      | then-same_bytes-2 w ↦ w.value-is ∙ or_true _ w.if-same_bytes-2.true two
      | else-same_bytes-2 w ↦ w.value-is ∙ w.same_bytes-else-same_bytes-2.ensures ∙ or_false _ w.if-same_bytes-2.false two
    ] in
    laws.decided _ _ _ c.requires.s_len_bound.0 _ c.name_text-text.ensures _ c.requires.names_value c.if-names-name.false _ (c.same_bytes-else-same_bytes-3.ensures ∙ or_false _ c.if-same_bytes-3.false three)
