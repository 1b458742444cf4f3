-- Document 02, paper 1: what `type_check_module` leaves when it accepts can be read. Assumes nothing.
use Prim.Native.Nat.{ℕ, zero, suc, ◌+◌, ◌*◌, ◌≤◌, ◌<◌}
use mathlib.Core.Path.{◌≡◌, refl, sym, ◌∙◌, subst}
use mathlib.Core.Bool.{true, cond, not}
use mathlib.Core.List.{List, [], map}
use mathlib.Core.Logic.{◌⊎◌, inl, inr}
use native.Mathlib.Omega.{arith}
use lib.ListN.{length}
use borrow.Author.Tests.{eqb-true}
use Rattle.types.specs.Ty.{Ty, end, node, member, kind_of, name_of, alias_kind, field_kind}
use Rattle.types.specs.Table.{unfolded, IsType}
use Rattle.types.proofs.Set.{has_here}
use Rattle.fallible.specs.Operands.{OperandSort, name_operand, type_operand, number_operand, operator_operand, unused, is_type, operand_sort, is_type_operand, mismatch_kind}
use Rattle.fallible.specs.Errors.{error_width, error_at, errors_from}
use Rattle.fallible.specs.Outcome.{accepted}
use Rattle.fallible.specs.declared.Error.{Error}
use Rattle.shape.specs.Shape.{shape_of, due_in, a_module, a_names}
use Rattle.shape.specs.declared.Holds.TheVariants.{Nothing, OneModule}
use Rattle.shape.proofs.ShapeLaws.{module_kind}
use Rattle.record_bytes.specs.Bytes.{head_end, field_size}
use Rattle.names.specs.Names.{names_end}
use Rattle.layout.specs.Layout.{Good, max_depth, kind_at, stop_at, layout_of}
use Rattle.trees.specs.Tree.{Item}
use Rattle.trees.specs.Record.{Records, no_records, record_then, go_on, holds_free_bytes, records_at}
use Rattle.node.proofs.Open.{ModuleRecord, empty_or_record, module_list, module_parts, names_room, names_end_none, split_must, opened}
use Rattle.trees.proofs.Decode.{records_cons, records_end}
use Rattle.meaning.specs.TypeError.{TypeError, plain, row}
use Rattle.meaning.specs.Context.{All}
use Rattle.meaning.specs.Module.{needed_types}
use Rattle.meaning.specs.Promise.{built_in_types, built_ins_of, trees_of, types_of, placed_errors_of, unfold_error, operand_of, Buffers, Counts, Lengths, lengths_of, OperandsExist, Checked}
use Rattle.meaning.specs.Words.{OperandOf, OfBuiltIn, RowName, NamesIn}
use Rattle.meaning.proofs.Passed.{passed}
use Rattle.meaning.proofs.TreeWords.{InRecords, InItem, item}
use Rattle.meaning.proofs.TypeNames.{built_ins_named, member_named}
use Rattle.meaning.proofs.ModuleWords.{module_errors_lem, module_types}
use Rattle.slot_places.specs.Absolute.{trees_at, to_items}
use Rattle.slot_places.proofs.Items.{same_module}
use Rattle.slot_places.proofs.Listed.{module_items}
use Rattle.listing.specs.Literals.{literal_places, IsLiteral}
use Rattle.readable.specs.Readable.{IsName, IsOperator, IsBuiltIn, Readable, WordOf, WordsExist, LeftReadable}
use Rattle.readable.proofs.FileRecords.{fine_records}

-- The items of a file: what follows its names in the module's record
module _ (s : List ℕ) where
  abbrev GoodRecords : Records → Type 0
  GoodRecords = InRecords (IsName s) IsOperator (IsLiteral s)

  module _ (m : ModuleRecord s) where
    whole_file : GoodRecords (records_at s max_depth 0 (length s))
    unfolding literal_places due_in
    whole_file = fine_records s (IsLiteral s) max_depth 0 (length s) OneModule refl (module_list s m) (λ p a. a)

    in_module_lem : GoodRecords (records_at s 63 16 (length s))
    unfolding InRecords shape_of due_in
    in_module_lem =
        let n = length s in
        let first = (split_must s max_depth 0 n OneModule a_module Nothing refl (module_list s m)).first in
        let cons = records_cons s max_depth 0 n a_module first in
        let k = module_kind (kind_at s 0) (opened s max_depth 0 n a_module first).belongs in
        let stop : stop_at s 0 ≡ n = let w = (module_parts s m).whole in omega arith in
        let inner = (subst GoodRecords cons whole_file).1.0 in
        subst (λ (e : ℕ). GoodRecords (records_at s 63 16 e)) stop
        (subst (λ (x : ℕ). GoodRecords (go_on (not (holds_free_bytes x)) (λ _. records_at s 63 (head_end 0 + field_size * (shape_of x).fields) (stop_at s 0)) no_records)) k inner)

    after_names : GoodRecords (records_at s 63 (names_end s) (length s))
    unfolding InRecords
    after_names =
        let n = length s in
        let cons = records_cons s 63 16 n a_names (module_parts s m).names in
        subst (λ (a : ℕ). GoodRecords (records_at s 63 a n)) (sym (names_room s m).end) (subst GoodRecords cons in_module_lem).1.1

  item_records_lem : layout_of s ≡ Good → GoodRecords (records_at s 63 (names_end s) (length s))
  unfolding InRecords
  item_records_lem e = go (empty_or_record s e)
    where
      none : GoodRecords (records_at [] 63 0 0)
      none = subst GoodRecords (sym (records_end [] 63 0)) tt

      go : (s ≡ []) ⊎ ModuleRecord s → GoodRecords (records_at s 63 (names_end s) (length s))
      go (inl n) =
          subst (λ (x : List ℕ). GoodRecords (records_at x 63 (names_end x) (length x))) (sym n)
          (subst (λ (a : ℕ). GoodRecords (records_at [] 63 a 0)) (sym names_end_none) none)
      go (inr m) = after_names m

  abbrev GoodItem : Item → Type 0
  GoodItem = InItem (IsName s) IsOperator (IsLiteral s)

  items_of : (r : Records) → GoodRecords r → All GoodItem (to_items r)
  unfolding All to_items InRecords
  items_of no_records p = tt
  items_of (record_then h b children rest) p = (item (IsName s) IsOperator (IsLiteral s) (record_then h b children rest) p, items_of rest p.1.1)

  items : layout_of s ≡ Good → All GoodItem (trees_at s)
  items e = subst (All GoodItem) (module_items s e) (items_of (records_at s 63 (names_end s) (length s)) (item_records_lem e))

-- Every error of a module that passes the layout can be read
pub readable_errors : (input : List ℕ) → layout_of input ≡ Good → All (Readable input) (placed_errors_of input)
unfolding built_in_types
readable_errors input e =
    subst (All (Readable input)) (same_module input e).errors
    (module_errors_lem (IsName input) IsOperator (IsLiteral input) (IsBuiltIn input) (omega arith, omega arith) (built_ins_of input) (λ name h. h) (trees_at input) (items input e))

-- Every name in its types is one of its own, or String's
pub named_types : (input : List ℕ) → layout_of input ≡ Good → (t : Ty) → member t (types_of input) ≡ true → NamesIn (IsName input) t
unfolding types_of
named_types input e t h =
    let b = built_ins_of input in
    member_named (IsName input) t (needed_types b (trees_of input))
    (subst (All (NamesIn (IsName input))) ((same_module input e).types b)
    (module_types (IsName input) IsOperator (IsLiteral input) b (built_ins_named (IsName input) _) (trees_at input) (items input e)))
    h

-- The words of a listed error
module _ (input rows : List ℕ) (count : ℕ) where
  word_of : (sort : OperandSort) (word : ℕ)
      → OperandOf (IsName input) IsOperator (IsLiteral input) (IsBuiltIn input) sort (cond (is_type sort) (row (unfolded rows word)) (plain word))
      → (is_type sort ≡ true → IsType rows count word) → WordOf input rows count sort word
  word_of name_operand word h t = h
  word_of type_operand word h t = t refl
  word_of number_operand word h t = tt
  word_of operator_operand word h t = h
  word_of unused word h t = tt

  built_in_of : (kind word : ℕ) → kind ≡ mismatch_kind → OfBuiltIn (IsName input) IsOperator (IsLiteral input) (IsBuiltIn input) (operand_of rows kind 0 word) → IsBuiltIn input word
  unfolding is_type_operand operand_sort
  built_in_of kind word e h = subst (λ (k : ℕ). OfBuiltIn (IsName input) IsOperator (IsLiteral input) (IsBuiltIn input) (operand_of rows k 0 word)) e h

  words_of : (e : Error) → Readable input (unfold_error rows e) → OperandsExist rows count e → WordsExist input rows count e
  unfolding is_type_operand
  words_of e h t =
      record {
        low = h.low;
        high = h.high;
        first = word_of (operand_sort e.kind 0) e.first h.first t.first;
        second = word_of (operand_sort e.kind 1) e.second h.second t.second;
        third = word_of (operand_sort e.kind 2) e.third h.third t.third;
        literal = h.literal;
        built_in = λ q. built_in_of e.kind e.first (eqb-true e.kind mismatch_kind q) (h.built_in q);
      }

-- by its number
listed : (P : TypeError → Type 0) (rows errors : List ℕ) (many from i n : ℕ) → from + i ≡ n → All P (map (unfold_error rows) (errors_from errors from many)) → i < many
    → P (unfold_error rows (error_at errors n))
unfolding All errors_from
listed P rows errors zero from i n e h p = absurd (omega arith)
listed P rows errors (suc many) from zero n e h p =
    let here : from ≡ n = omega arith in
    subst (λ (k : ℕ). P (unfold_error rows (error_at errors k))) here h.0
listed P rows errors (suc many) from (suc i) n e h p = listed P rows errors many (from + 1) i n (omega arith) h.1 (omega arith)

-- The name of a type that has one
top_name : (N : ℕ → Type 0) (t : Ty) → NamesIn N t → alias_kind ≤ kind_of t → kind_of t ≤ field_kind → RowName N (name_of t)
unfolding NamesIn
top_name N end h p q = absurd (omega arith)
top_name N (node k a b s n) h p q = h.0 p q

-- What an accepted check leaves
pub left_readable : (input : List ℕ) (before after : Buffers) (counts : Counts) → Checked input before after (accepted counts)
    → LeftReadable input after.rows after.errors counts
left_readable input before after counts c =
    let rows = after.rows in
    let a = c.filled counts refl in
    let p = passed input (lengths_of before) counts (sym c.answers) in
    let e = p.layout in
    let errors : All (Readable input) (map (unfold_error rows) (errors_from after.errors 0 counts.errors)) = subst (All (Readable input)) (sym a.errors) (readable_errors input e) in
    record {
      table = a.table;
      names = λ n l h. top_name (IsName input) (unfolded rows n)
          (named_types input e (unfolded rows n) (sym (a.types (unfolded rows n)) ∙ has_here rows counts.rows n (unfolded rows n) l h refl));
      lent = subst (λ (l : Lengths). error_width * counts.errors ≤ l.errors) (sym c.lengths) p.errors;
      words = λ i h. words_of input rows counts.rows (error_at after.errors i) (listed (Readable input) rows after.errors counts.errors 0 i i (omega arith) errors h) (a.operands i h);
    }
