-- Each exit is a law of what is known after the search.
use Prim.Native.Nat.{ℕ}
use mathlib.Core.List.{List}
use mathlib.Core.Logic.{inl, inr, ⊎_elim}
use mathlib.Core.Path.{◌≡◌, sym}
use native.Mathlib.Omega.{arith}
use borrow.Author.Rules.{rules}
use Rattle.std.specs.Prelude.{Option}
use Rattle.row_index.proofs.Additions.{rows_none}
use Rattle.types.specs.Table.{Words, Table}
use Rattle.types.specs.Post.{words_of, highest_part, PartsOk, Found}
use Rattle.types.specs.declared.Row.{Row}
use Rattle.types.proofs.Requests as requests
use Rattle.types.proofs.intern.Goals as goal

-- what is known after the search
sought : {w : List ℕ} {c : ℕ} {row : Row} {r : Words} {m : ℕ} {answer : Option ℕ} → Table w c × PartsOk w c row → r ≡ words_of row → m ≡ highest_part r → Found w m c r answer → requests.Sought w c row r m answer
sought table words highest found = record { table = table.0; parts = table.1; words = words; highest = highest; found = found }

pub returns-in-Some : goal.returns-in-Some
returns-in-Some c = record {
  intern_post = requests.intern_found (sought c.requires.table c.words_of-wanted.ensures c.highest_part-below.ensures c.in-Some.ensures);
  index_value = sym (rows_none _ _ _);
}

pub returns-then-rows-count : goal.returns-then-rows-count
returns-then-rows-count c = record {
  intern_post = requests.intern_full (sought c.requires.table c.words_of-wanted.ensures c.highest_part-below.ensures c.in_default.ensures) (⊎_elim (λ (few : _). inl few) (λ (last : _). inr (omega arith)) c.then-rows-count.either);
  index_value = sym (rows_none _ _ _);
}

pub returns : goal.returns
returns c =
    let known = sought {row = c.args.row} c.requires.table c.words_of-wanted.ensures c.highest_part-below.ensures c.in_default.ensures in
    let size = c.size_word-size in
    record {
      intern_post = requests.intern_new known (search rules) c.if-rows-count.false size.result size.ensures c.store.ensures;
      index_value = requests.intern_linked known c.if-rows-count.false size.result c.store.ensures _ c.link.ensures;
    }
