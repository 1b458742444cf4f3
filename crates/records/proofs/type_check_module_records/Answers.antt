use mathlib.Core.Path.{sym, ap, ◌∙◌, subst}
use Prim.Native.Nat.{ℕ, ◌*◌, ◌≤◌}
use lib.ListN.{length}
use Rattle.fallible.specs.Errors.{error_width}
use Rattle.type_check.specs.Post.{buffers, outcome_of}
use Rattle.records.specs.Records.{records_from}
use Rattle.records.proofs.Promise.{fit, records_checked}
use Rattle.records.proofs.type_check_module_records.Goals as goal

pub fill_records-requires : goal.fill_records-requires
fill_records-requires c =
    let before = buffers c.args.output.now c.args.rows.now c.args.words.now c.args.work.now in
    let left = c.check_words-answer.new in
    let after = buffers left.output left.rows left.words left.work in
    let fits = fit c.args.input.now before after c.args.records.now (outcome_of c.check_words-answer.result) c.check_words-answer.ensures c.check_words-answer.auto.words in
    subst (λ (m : ℕ). (m ≤ length c.args.records.now) × (error_width * m ≤ length left.words)) (sym c.record_count-count.ensures) fits

pub returns : goal.returns
returns c =
    let before = buffers c.args.output.now c.args.rows.now c.args.words.now c.args.work.now in
    let left = c.check_words-answer.new in
    let after = buffers left.output left.rows left.words left.work in
    let filled = c.fill_records.ensures ∙ ap (λ (m : ℕ). records_from left.words m c.args.records.now) c.record_count-count.ensures in
    records_checked c.args.input.now before after c.args.records.now (outcome_of c.check_words-answer.result) c.check_words-answer.ensures filled
