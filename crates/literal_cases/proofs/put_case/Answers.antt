use Rattle.std.proofs.Common.{List, refl}
use Rattle.std.specs.Prelude.{None, Some}
use Rattle.std.proofs.lemmas.Result.{on_ok_weaker, on_err_weaker}
use Rattle.program_support.specs.Buffer.{Piece}
use Rattle.program_support.specs.Lines.{Puts, PutsSome}
use Rattle.program_support.proofs.LineLaws.{some_none}
use Rattle.literal_cases.proofs.CaseLaws as cases
use Rattle.literal_cases.proofs.put_case.Goals as goal

pub returns-in_default-clause-ok : goal.returns-in_default-clause-ok
returns-in_default-clause-ok g c =
    on_ok_weaker c.put_text.result
    (λ h. cases.no_blank c.args.line.now (λ (l : List Piece). Puts l c.args.lines.now c.put_text.new.self) c.in_default.ensures h)
    c.put_text.ensures.ok

pub returns-in_default-clause-err : goal.returns-in_default-clause-err
returns-in_default-clause-err g c =
    on_err_weaker c.put_text.result
    (λ e. cases.no_blank c.args.line.now (λ (l : List Piece). PutsSome l c.args.lines.now c.put_text.new.self) c.in_default.ensures (some_none e))
    c.put_text.ensures.err

pub returns-in-Some-read_base-clause-ok : goal.returns-in-Some-read_base-clause-ok
returns-in-Some-read_base-clause-ok g c =
    on_ok_weaker c.put_answer.result
    (λ h. cases.a_base c.args.line.now (λ (l : List Piece). Puts l c.args.lines.now c.put_answer.new.lines) c.in-Some.blank c.in-Some.ensures (Some c.in-Some-read_base.number)
    c.in-Some-read_base.ensures _ _ refl c.from_str_radix.ensures h)
    c.put_answer.ensures.ok

pub returns-in-Some-read_base-clause-err : goal.returns-in-Some-read_base-clause-err
returns-in-Some-read_base-clause-err g c =
    on_err_weaker c.put_answer.result
    (λ h. cases.a_base c.args.line.now (λ (l : List Piece). PutsSome l c.args.lines.now c.put_answer.new.lines) c.in-Some.blank c.in-Some.ensures (Some c.in-Some-read_base.number)
    c.in-Some-read_base.ensures _ _ refl c.from_str_radix.ensures h)
    c.put_answer.ensures.err

pub returns-in-None-clause-ok : goal.returns-in-None-clause-ok
returns-in-None-clause-ok g c =
    on_ok_weaker c.put_text-in-None.result
    (λ h. cases.no_base c.args.line.now (λ (l : List Piece). Puts l c.args.lines.now c.put_text-in-None.new.self) c.in-Some.blank c.in-Some.ensures None c.in-None.ensures refl h)
    c.put_text-in-None.ensures.ok

pub returns-in-None-clause-err : goal.returns-in-None-clause-err
returns-in-None-clause-err g c =
    on_err_weaker c.put_text-in-None.result
    (λ e. cases.no_base c.args.line.now (λ (l : List Piece). PutsSome l c.args.lines.now c.put_text-in-None.new.self) c.in-Some.blank c.in-Some.ensures None c.in-None.ensures refl (some_none e))
    c.put_text-in-None.ensures.err
