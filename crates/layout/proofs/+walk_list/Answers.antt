use mathlib.Core.Path.{refl}
use native.Mathlib.Omega.{arith}
use Rattle.std.proofs.lemmas.Result.{err_from_is_err_and}
use Rattle.layout.proofs.LayoutLaws as laws
use Rattle.layout.proofs.+walk_list.Goals as goal

pub loop-due-init : goal.loop-due-init
loop-due-init t c = search laws.walk_start

pub returns-then-is_done : goal.returns-then-is_done
returns-then-is_done t c = search laws.walk_done

pub returns-then-due-eq-UNLISTED : goal.returns-then-due-eq-UNLISTED
returns-then-due-eq-UNLISTED t c = search laws.walk_left

pub returns-then-depth-lt1 : goal.returns-then-depth-lt1
returns-then-depth-lt1 t c = search laws.walk_deep

pub returns-in_err-head : goal.returns-in_err-head
returns-in_err-head t c =
    let p = err_from_is_err_and c.from_residual.result c.from_residual.ensures.1 in
    rw (p.1, p.2) (laws.walk_wrong _ _ _ _ _ _ _ _ c.loop-due.invariant _ c.due_in-due.ensures _ c.is_done.ensures c.if-is_done.false c.if-due-eq-UNLISTED.false c.if-depth-lt1.false _ c.in_err-head.ensures)

pub walk_list-requires : goal.walk_list-requires
walk_list-requires t c =
    let g = laws.in_body _ _ _ _ _ _ _ _ c.loop-due.invariant _ c.due_in-due.ensures _ c.is_done.ensures c.if-is_done.false c.if-due-eq-UNLISTED.false c.if-depth-lt1.false _ c.in_ok-head.ensures in
    let a = c.loop-due.invariant.inside in
    (omega arith, record { starts = omega arith; ends = omega arith; few = omega arith })

pub returns-in_err-walk_list : goal.returns-in_err-walk_list
returns-in_err-walk_list t c =
    let p = err_from_is_err_and c.from_residual-in_err-walk_list.result c.from_residual-in_err-walk_list.ensures.1 in
    rw (p.1, p.2) (laws.walk_inner _ _ _ _ _ _ _ _ c.loop-due.invariant _ c.due_in-due.ensures _ c.is_done.ensures c.if-is_done.false c.if-due-eq-UNLISTED.false c.if-depth-lt1.false _ c.in_ok-head.ensures _ c.in_err-walk_list.ensures c.requires.ends _ refl)

pub loop-due-smaller-in_ok-walk_list : goal.loop-due-smaller-in_ok-walk_list
loop-due-smaller-in_ok-walk_list t c =
    let g = laws.in_body _ _ _ _ _ _ _ _ c.loop-due.invariant _ c.due_in-due.ensures _ c.is_done.ensures c.if-is_done.false c.if-due-eq-UNLISTED.false c.if-depth-lt1.false _ c.in_ok-head.ensures in
    let a = c.loop-due.invariant.inside in
    omega arith

pub loop-due-preserved-in_ok-walk_list : goal.loop-due-preserved-in_ok-walk_list
loop-due-preserved-in_ok-walk_list t c = search (laws.walk_on, c.in_ok-head.ensures, c.in_ok-walk_list.ensures)

pub loop-due-smaller : goal.loop-due-smaller
loop-due-smaller t c =
    let g = laws.in_body _ _ _ _ _ _ _ _ c.loop-due.invariant _ c.due_in-due.ensures _ c.is_done.ensures c.if-is_done.false c.if-due-eq-UNLISTED.false c.if-depth-lt1.false _ c.in_ok-head.ensures in
    let a = c.loop-due.invariant.inside in
    omega arith

pub loop-due-preserved : goal.loop-due-preserved
loop-due-preserved t c = search (laws.walk_past, c.in_ok-head.ensures)
