-- Document 01, "Module file" and refusals 1 to 3: the walk over a module's layout in byte order, to the first fault.
use Rattle.std.specs.Prelude.{ℕ, zero, suc, ◌+◌, ◌-◌, ◌*◌, ◌≤◌, ◌<◌, ◌≡◌, Bool, true, false, not, ◌&&◌, List, length, leb, ltb, eqb, Result, Ok, Err}
use Rattle.std.proofs.Math.Option.{Option, none, some}
use Rattle.shape.specs.Shape.{pick, shape_of, due_in, is_done, may_stand, state_after, allowed, unlisted}
use Rattle.shape.specs.declared.Rule.{Rule}
use Rattle.shape.specs.declared.Holds.{Holds}
use Rattle.shape.specs.declared.Holds.TheVariants.{OneModule}
use Rattle.shape.specs.declared.Shape.{Shape}
use Rattle.shape.specs.declared.Due.{Due}
use Rattle.record_bytes.specs.Bytes.{half_at, word_at, head_size, field_size, head_end, field_end}
use Rattle.names.specs.Names.{name_count}
use Rattle.refusal.specs.declared.Refusal.{Refusal}
use Rattle.refusal.specs.declared.Refusal.TheVariants as causes
use Rattle.layout.specs.declared.LayoutError.{LayoutError}
use Rattle.layout.specs.declared.LayoutError.TheVariants.{TooLong, Fault, TooDeep}
use Rattle.layout.specs.declared.Head.{Head}

-- The layout of a module, or of a part of it: it is good, or has an error
abbrev pub Layout : Type 0
Layout = Result (Unit {0}) LayoutError

abbrev pub Good : Layout
Good = Ok tt

-- "At most 65,536 bytes; depth at most 64, the module being 1"
abbrev pub max_bytes : ℕ
max_bytes = 65536

abbrev pub max_depth : ℕ
max_depth = 64

-- A record is: length (4 bytes), kind (2), file (2), line (4), column (4), then fields of 4 bytes each
abbrev pub kind_at : List ℕ → (at : ℕ) → ℕ
kind_at s at = half_at s (at + 4)

abbrev pub shape_at : List ℕ → (at : ℕ) → Shape
shape_at s at = shape_of (kind_at s at)

abbrev pub class_at : List ℕ → (at : ℕ) → ℕ
class_at s at = (shape_at s at).class

-- where its children start, and where it stops
abbrev pub start_at : List ℕ → (at : ℕ) → ℕ
start_at s at = head_end at + field_size * (shape_at s at).fields

abbrev pub stop_at : List ℕ → (at : ℕ) → ℕ
stop_at s at = at + word_at s at

-- a record at `at` is neither missing nor too short or long, in a list that ends at `end`
abbrev pub is_whole : List ℕ → (at end : ℕ) → Bool
is_whole s at end = leb head_size (end - at) && (leb (word_at s at) (end - at) && leb (head_size + field_size * (shape_at s at).fields) (word_at s at))

-- the field at `at`, if a record with so many fields has so many, has a value that its rule does not allow
unfoldable pub is_bad : (names : ℕ) → List ℕ → (nth fields : ℕ) → Rule → (at : ℕ) → Bool
is_bad n s nth fields rule at = leb nth fields && not (allowed n rule (word_at s at))

-- the head of the record at `at`, if it is good
abbrev pub good_head : List ℕ → (at : ℕ) → Due → Head
good_head s at due = record { start = start_at s at; stop = stop_at s at; holds = (shape_at s at).holds; next = state_after due (shape_at s at).class }

-- the head of the record that is due at `at`
unfoldable pub head_at : (names : ℕ) → List ℕ → (at end : ℕ) → Due → Result Head LayoutError
head_at n s at end due =
    pick (is_whole s at end && may_stand due (shape_at s at).class)
    (pick (is_bad n s 1 (shape_at s at).fields (shape_at s at).first (head_end at)) (Err (Fault (head_end at)))
    (pick (is_bad n s 2 (shape_at s at).fields (shape_at s at).second (field_end at)) (Err (Fault (field_end at)))
    (Ok (good_head s at due))))
    (Err (Fault at))

-- What follows is a function of nothing, so that it is computed only where it counts.
abbrev pub answer_if : Bool → Layout → (Unit {0} → Layout) → Layout
answer_if true l f = l
answer_if false l f = f tt

abbrev pub and_then : Layout → (Unit {0} → Layout) → Layout
and_then (Ok u) f = f u
and_then (Err e) f = Err e

abbrev pub after_head : (ℕ → ℕ → Holds → Layout) → Result Head LayoutError → Layout
after_head f (Ok head) = f head.start head.stop head.holds
after_head f (Err e) = Err e

-- One step of a child list: it is complete; or bytes are left over; or a record is due, and the rest follows
abbrev pub list_step : (ℕ → ℕ → Due → Layout) → (ℕ → Holds → Layout) → List ℕ → (at end : ℕ) → Due → Layout
list_step one rest s at end due =
    answer_if (is_done due at end) Good (λ _.
    answer_if (eqb due.class unlisted) (Err (Fault at)) (λ _.
    and_then (one at end due) (λ _. rest (stop_at s at) (state_after due (shape_at s at).class))))

-- the child list from `at` to `end` in a state; the first number bounds how many records it has
unfoldable pub list_at : (ℕ → ℕ → Due → Layout) → List ℕ → (fuel at end : ℕ) → Holds → Layout
list_at one s zero at end state = Err (Fault at)
list_at one s (suc n) at end state = list_step one (λ a st. list_at one s n a end st) s at end (due_in state)

-- the record that is due at `at`, with so many levels left
unfoldable pub record_at : (names : ℕ) → List ℕ → (depth at end : ℕ) → Due → Layout
record_at n s zero at end due = Err (TooDeep at)
record_at n s (suc d) at end due = after_head (λ start stop holds. list_at (record_at n s d) s (suc (length s)) start stop holds) (head_at n s at end due)

-- the file of no bytes
abbrev pub is_empty_file : List ℕ → Bool
is_empty_file s = eqb (length s) 0

-- refusals 1 to 3: the file of no bytes is the module without names and items; any other file is one module record, at depth 1
unfoldable pub layout_of : List ℕ → Layout
layout_of s =
    answer_if (is_empty_file s) Good (λ _.
    answer_if (ltb max_bytes (length s)) (Err TooLong) (λ _.
    list_at (record_at (name_count s) s max_depth) s (suc (length s)) 0 (length s) OneModule))

-- the number and the place of each case
unfoldable pub layout_refusal : Layout → Option (ℕ × ℕ)
layout_refusal (Ok u) = none
layout_refusal (Err TooLong) = some (1, 0)
layout_refusal (Err (Fault p)) = some (2, p)
layout_refusal (Err (TooDeep p)) = some (3, p)

-- the cause of each case
abbrev pub cause_of : LayoutError → Refusal
cause_of TooLong = causes.TooLong
cause_of (Fault p) = causes.BadLayout p
cause_of (TooDeep p) = causes.TooDeep p

-- tests 1 to 3: the number and the place of the refusal, if there is one
abbrev pub layout_tests : List ℕ → Option (ℕ × ℕ)
layout_tests s = layout_refusal (layout_of s)

-- a part of a module, which has at most 65,536 bytes
pub record Part (s : List ℕ) (at end : ℕ) : Type 0 where
  pub starts : at ≤ end
  pub ends : end ≤ length s
  pub few : length s ≤ max_bytes

-- `r` is the layout of a child list, whatever bounds the number of its records
pub record LayoutOfList (names : ℕ) (s : List ℕ) (depth from end : ℕ) (state : Holds) (r : Layout) : Type 0 where
  pub is : (n : ℕ) → end - from < n → r ≡ list_at (record_at names s depth) s n from end state
