-- The fields of a struct compound whose values are typed: what is required of them, what they show, and what the checks promise.
use Rattle.std.specs.Prelude.{ℕ, ◌+◌, ◌<◌, min, ◌≡◌, Bool, List, [], ◌∷◌, length, get_or, set, leb}
use Rattle.types.specs.Ty.{Ty, first_of, field_named}
use Rattle.types.specs.Table.{unfolded}
use Rattle.record_bytes.specs.Bytes.{half_at, word_at, head_end, field_end}
use Rattle.layout.specs.Layout.{stop_at}
use Rattle.trees.specs.Record.{location_at}
use Rattle.trees.specs.Tree.{CompoundField}
use Rattle.meaning.specs.TypeError.{TypeError}
use Rattle.meaning.specs.Context.{Context, each}
use Rattle.meaning.specs.Expression.{expression_type}
use Rattle.meaning.specs.Compound.{field_fits, struct_errors, occurrences, repeat_errors}
use Rattle.walk.specs.declared.State.{State}
use Rattle.walk.specs.Words.{slot_place}
use Rattle.walk.specs.Represents.{Lent, Typing}
use Rattle.expression_rules.specs.Rules.{Checks}
use Rattle.call_rules.specs.Lists.{FilledAt}

-- A field's name follows its head, its value the name: the slot of the value
abbrev pub value_place : (at : ℕ) → ℕ
value_place at = slot_place (field_end at)

-- The slots of the values of the fields from `at` to `stop` hold type rows
abbrev pub FilledFields : (rows : List ℕ) → (count : ℕ) → (s output : List ℕ) → (at stop : ℕ) → Type 0
FilledFields = FilledAt value_place

-- A field of the tree and the record at a place have one name and one location
pub record FieldAt (s : List ℕ) (f : CompoundField) (at : ℕ) : Type 0 where
  pub name : word_at s (head_end at) ≡ f.name
  pub file : half_at s (at + 6) ≡ f.location.file
  pub line : word_at s (at + 8) ≡ f.location.line
  pub column : word_at s (at + 12) ≡ f.location.column

-- The fields of the tree are the records from `at` to `stop`
unfoldable pub FieldsAt : (s : List ℕ) → (stop : ℕ) → List CompoundField → (at : ℕ) → Type 0
FieldsAt s stop [] at = at ≡ stop
FieldsAt s stop (f ∷ fields) at = (at < stop) × FieldAt s f at × FieldsAt s stop fields (stop_at s at)

-- and the slots of their values show their types
unfoldable pub ValuesShow : (s output : List ℕ) → Lent → Context → List CompoundField → (at : ℕ) → Type 0
ValuesShow s output C ctx [] at = Unit {0}
ValuesShow s output C ctx (f ∷ fields) at = Typing C (word_at output (value_place at)) (expression_type ctx f.value) × ValuesShow s output C ctx fields (stop_at s at)

-- Fields in a context, for a target of a type
pub record Compounded : Type 0 where
  pub ctx : Context
  pub target : Ty
  pub fields : List CompoundField

pub record FieldsTyped (s output : List ℕ) (from stop : ℕ) (C : Lent) (x : Compounded) : Type 0 where
  pub stand : FieldsAt s stop x.fields from
  pub show : ValuesShow s output C x.ctx x.fields from

pub record CompoundTyped (s output : List ℕ) (from stop target : ℕ) (C : Lent) (x : Compounded) : Type 0 where
  pub typing : Typing C target x.target
  pub fields : FieldsTyped s output from stop C x

-- The field at a place, whose value has the type v
abbrev pub CheckField : (s : List ℕ) (place bare : ℕ) (output rows errors : List ℕ) (state : State) (errors' : List ℕ) (state' : State) → Type 0
CheckField s place bare output rows =
    Checks (λ C v. Typing C (word_at output (value_place place)) v)
    (λ v. field_fits (location_at s place) (word_at s (head_end place)) (field_named (word_at s (head_end place)) (first_of (unfolded rows bare))) v) rows

-- Fields against the cells of a struct type
abbrev pub field_errors_against : (cells : Ty) → Context → List CompoundField → List TypeError
field_errors_against cells ctx fields = each (λ f. field_fits f.location f.name (field_named f.name cells) (expression_type ctx f.value)) fields

abbrev pub CheckFields : (s : List ℕ) (from stop bare : ℕ) (output rows errors : List ℕ) (state : State) (errors' : List ℕ) (state' : State) → Type 0
CheckFields s from stop bare output rows =
    Checks (FieldsTyped s output from stop) (λ x. field_errors_against (first_of (unfolded rows bare)) x.ctx x.fields) rows

-- r is how many fields have the name
pub record Occurs (s : List ℕ) (from stop name r : ℕ) : Type 0 where
  pub count : (fields : List CompoundField) → FieldsAt s stop fields from → r ≡ occurrences name fields

-- One more, but no more than 2
abbrev pub up_to_two : (count : ℕ) → ℕ
up_to_two count = min (count + 1) 2

-- A table of names has so many entries
abbrev pub entries : ℕ
entries = 4096

-- A table with a name counted: its entry one higher, but no more than 2. A name without an entry changes nothing
abbrev pub with_name : (table : List ℕ) → (name : ℕ) → List ℕ
with_name table name = set table name (up_to_two (get_or table name 0))

-- Each entry is how many fields have its number as their name, but no more than 2
pub record Tallied (s : List ℕ) (from stop : ℕ) (table : List ℕ) : Type 0 where
  pub entry : (name : ℕ) → name < length table → (fields : List CompoundField) → FieldsAt s stop fields from → get_or table name 0 ≡ min (occurrences name fields) 2

-- r is whether at most one field has the name
pub record Single (s : List ℕ) (from stop name : ℕ) (r : Bool) : Type 0 where
  pub is : (fields : List CompoundField) → FieldsAt s stop fields from → r ≡ leb (occurrences name fields) 1

-- Whatever rows are lent
pub record CheckRepeats (s : List ℕ) (from stop : ℕ) (errors : List ℕ) (state : State) (errors' : List ℕ) (state' : State) : Type 0 where
  pub checked : (rows : List ℕ) → Checks (λ C fields. FieldsAt s stop fields from) (λ fields. repeat_errors fields) rows errors state errors' state'

-- A struct compound, but for fields that stand twice
abbrev pub StructCompound : (s : List ℕ) (at target from stop : ℕ) (output rows errors : List ℕ) (state : State) (errors' : List ℕ) (state' : State) → Type 0
StructCompound s at target from stop output rows =
    Checks (CompoundTyped s output from stop target) (λ x. struct_errors x.ctx (location_at s at) x.target x.fields) rows
