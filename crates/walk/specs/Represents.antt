-- What the lent words stand for. The numbering of the rows is free, and past a lack of room only the rules of the table hold.
--
-- C is all that is lent at a moment: the slices, the index of the rows, the counts. A walk leads from C to C'. Its promise is an effect
-- (Effect.antt): slots stored, errors in their order, types met.
--
--     C ────────────── a walk ─────────────▶ C'
--     │ stands for                           │ stands for
--   before ───── then the walk's effect ───▶ before then effect
--
--   word          what it says
--   Good C        the rows obey the rules, the index is theirs, each working word is 0 or a type row: with or without room
--   Grew C C'     C' is good, its rows are those of C and more, each new one in the index, a lack of room is not forgotten
--   Frame         of the output only the bytes of the record may differ
--   Stands        the rows are exactly the types needed; the slots are Stored; the errors are Told
--   Shows         a row number shows a type. Spells: an error's words spell an error of the meaning
--   Represents    C stands for an effect: Stands if there was room, TooMany types if not
--   Does          whatever C stands for, C' stands for that and then this effect
--   Typing        a row number shows a type, if there was room
--   Scope         the working words hold a context, if there was room
--   Makes, Reported, Tells, Walked, WalkedTo (Post.antt): one row made; one error reported; errors told in words; a walk: Grew, Frame and
--                 Does for whatever context is held; a walk that ends in a row number, which shows a type
use Rattle.std.specs.Prelude.{ℕ, ◌+◌, ◌*◌, ◌^◌, ◌≤◌, ◌<◌, ◌≡◌, true, false, ◌⊎◌, length, get_or}
use mathlib.Core.List.{List, [], ◌∷◌, Permᴰ}
use Rattle.std.proofs.Math.Option.{Option, none, some}
use Rattle.types.specs.Ty.{Ty, member, distinct_count}
use Rattle.types.specs.Table.{row_width, fixed_count, unfolded, has_type, Table, Extends, IsType, IsCell}
use Rattle.row_index.specs.Index.{Indexed, with_rows}
use Rattle.fallible.specs.declared.Error.{Error}
use Rattle.fallible.specs.Errors.{ErrorList, error_list, push_all}
use Rattle.fallible.specs.Operands.{is_type_operand}
use Rattle.meaning.specs.TypeError.{TypeError, Operand, plain, row}
use Rattle.meaning.specs.Context.{Context}
use Rattle.meaning.specs.Promise.{work_width}
use Rattle.walk.specs.Effect.{Store, Effect, ◌then◌, needed}
use Rattle.walk.specs.Words.{slot_stored, word_place, map_at}
use Rattle.walk.specs.declared.State.{State}

-- The slices lent, the index of the rows, and the counts. Of the working words those are lent that belong to a name
pub record Lent : Type 0 where
  pub work : List ℕ
  pub output : List ℕ
  pub errors : List ℕ
  pub rows : List ℕ
  pub index : List ℕ
  pub state : State

abbrev pub lent : (work output errors rows index : List ℕ) → State → Lent
lent work output errors rows index state =
    record { work = work; output = output; errors = errors; rows = rows; index = index; state = state }

-- Safety, with or without room

-- A working word is 0 or a type row
pub record WordOk (rows : List ℕ) (count v : ℕ) : Type 0 where
  pub either : (v ≡ 0) ⊎ IsType rows count v

pub record Good (C : Lent) : Type 0 where
  pub table : Table C.rows C.state.rows
  pub indexed : Indexed C.rows C.state.rows C.index
  pub words : (i : ℕ) → WordOk C.rows C.state.rows (get_or C.work i 0)

-- From C to C' the table obeys the rules and only grows, the new rows come into the index one after the other, and a lack of room is not
-- forgotten
pub record Grew (C C' : Lent) : Type 0 where
  pub good : Good C'
  pub extends : Extends C.rows C.state.rows C'.rows C'.state.rows
  pub linked : C'.index ≡ with_rows C.index C'.rows C.state.rows C'.state.rows
  pub sticky : C.state.full ≡ true → C'.state.full ≡ true

-- The output is as long, and as it was outside of the bytes from `from` to `to`
pub record Frame (from to : ℕ) (output output' : List ℕ) : Type 0 where
  pub long : length output' ≡ length output
  pub before : (i : ℕ) → i < from → get_or output' i 0 ≡ get_or output i 0
  pub past : (i : ℕ) → to ≤ i → get_or output' i 0 ≡ get_or output i 0

-- Meaning

-- Row number v shows the type t
pub record Shows (rows : List ℕ) (count v : ℕ) (t : Ty) : Type 0 where
  pub is : IsType rows count v
  pub type : unfolded rows v ≡ t

-- Row number v shows the list t of cells of kind k
pub record ShowsCells (rows : List ℕ) (count k v : ℕ) (t : Ty) : Type 0 where
  pub is : IsCell rows count k v
  pub type : unfolded rows v ≡ t

-- One after the other, each slot got a row that shows its type
unfoldable pub Written : (rows : List ℕ) → (count : ℕ) → List Store → (output output' : List ℕ) → Type 0
Written rows count [] output output' = output' ≡ output
Written rows count (s ∷ stores) output output' = (v : ℕ) × Shows rows count v s.type × Written rows count stores (slot_stored output s.at v) output'

-- In some order
pub record Stored (rows : List ℕ) (count : ℕ) (stores : List Store) (output output' : List ℕ) : Type 0 where
  pub order : List Store
  pub same : Permᴰ order stores
  pub written : Written rows count order output output'

-- The word of an operand: the plain word, or a row that shows the type, as the table of operands has it
unfoldable pub SpellsOperand : (rows : List ℕ) → (count kind place : ℕ) → Operand → ℕ → Type 0
SpellsOperand rows count kind place (plain n) v = (is_type_operand kind place ≡ false) × (v ≡ n)
SpellsOperand rows count kind place (row t) v = (is_type_operand kind place ≡ true) × Shows rows count v t

pub record Spells (rows : List ℕ) (count : ℕ) (e : TypeError) (x : Error) : Type 0 where
  pub kind : x.kind ≡ e.kind
  pub file : x.file ≡ e.file
  pub line : x.line ≡ e.line
  pub column : x.column ≡ e.column
  pub first : SpellsOperand rows count e.kind 0 e.first x.first
  pub second : SpellsOperand rows count e.kind 1 e.second x.second
  pub third : SpellsOperand rows count e.kind 2 e.third x.third
  pub place : x.place ≡ e.place

unfoldable pub SpellsAll : (rows : List ℕ) → (count : ℕ) → List TypeError → List Error → Type 0
SpellsAll rows count [] [] = Unit {0}
SpellsAll rows count [] (x ∷ xs) = ⊥
SpellsAll rows count (e ∷ es) [] = ⊥
SpellsAll rows count (e ∷ es) (x ∷ xs) = Spells rows count e x × SpellsAll rows count es xs

-- The errors were pushed in order
pub record Told (rows : List ℕ) (count : ℕ) (errors : List TypeError) (list list' : ErrorList) : Type 0 where
  pub told : List Error
  pub spells : SpellsAll rows count errors told
  pub pushed : list' ≡ push_all list told

-- C has done the effect, begun with this output and these error words and no error; its rows are the types needed, and no others
pub record Stands (output errors : List ℕ) (C : Lent) (effect : Effect) : Type 0 where
  pub types : (t : Ty) → has_type C.rows C.state.rows t ≡ member t (needed effect)
  pub few : C.state.rows ≤ fixed_count + effect.steps
  pub stored : Stored C.rows C.state.rows effect.stores output C.output
  pub told : Told C.rows C.state.rows effect.errors (error_list errors 0) (error_list C.errors C.state.errors)

-- So many words have no room for the rows needed
abbrev pub TooMany : (words : ℕ) → Effect → Type 0
TooMany words effect = (words < row_width * distinct_count (needed effect)) ⊎ (2 ^ 32 ≤ fixed_count + effect.steps + 1)

pub record Represents (output errors : List ℕ) (C : Lent) (effect : Effect) : Type 0 where
  pub fits : C.state.full ≡ false → Stands output errors C effect
  pub lacks : C.state.full ≡ true → TooMany (length C.rows) effect

-- Whatever C has done before, C' has done that and then the effect
pub record Does (effect : Effect) (C C' : Lent) : Type 0 where
  pub does : (output errors : List ℕ) (before : Effect) → Represents output errors C before → Represents output errors C' (before then effect)

-- Row number r shows the type t, if there was room
pub record Typing (C : Lent) (r : ℕ) (t : Ty) : Type 0 where
  pub shows : C.state.full ≡ false → Shows C.rows C.state.rows r t

pub record TypingCells (C : Lent) (k r : ℕ) (t : Ty) : Type 0 where
  pub shows : C.state.full ≡ false → ShowsCells C.rows C.state.rows k r t

-- A working word: 0 for no type
unfoldable pub Holds : (rows : List ℕ) → (count v : ℕ) → Option Ty → Type 0
Holds rows count v none = v ≡ 0
Holds rows count v (some t) = Shows rows count v t

-- The working words hold what names stand for, if there was room
pub record Scope (C : Lent) (ctx : Context) : Type 0 where
  pub holds : C.state.full ≡ false → (name which : ℕ) → which < work_width → word_place name which < length C.work
      → Holds C.rows C.state.rows (get_or C.work (word_place name which) 0) (map_at ctx which name)
