-- The kinds of records by name, in the order of document 01's list (in code: `shape::kinds`).
use Rattle.std.specs.Prelude.{ℕ}

abbrev pub whole_module : ℕ
whole_module = 1

abbrev pub names : ℕ
names = 2

abbrev pub name : ℕ
name = 3

-- T: the types.
abbrev pub named_type : ℕ
named_type = 16

abbrev pub void_type : ℕ
void_type = 17

abbrev pub pointer_type : ℕ
pointer_type = 18

abbrev pub array_type : ℕ
array_type = 19

abbrev pub struct_type : ℕ
struct_type = 20

abbrev pub field : ℕ
field = 21

-- E: the expressions. Up to the string they have no parts; from the pointer taken to the boolean not they have one operand.
abbrev pub identifier : ℕ
identifier = 32

abbrev pub integer : ℕ
integer = 33

abbrev pub boolean : ℕ
boolean = 34

abbrev pub string : ℕ
string = 35

abbrev pub call : ℕ
call = 36

abbrev pub index : ℕ
index = 37

abbrev pub cast : ℕ
cast = 38

abbrev pub pointer_take : ℕ
pointer_take = 39

abbrev pub pointer_dereference : ℕ
pointer_dereference = 40

abbrev pub field_access : ℕ
field_access = 41

abbrev pub bitwise_not : ℕ
bitwise_not = 42

abbrev pub boolean_not : ℕ
boolean_not = 43

abbrev pub boolean_and : ℕ
boolean_and = 44

abbrev pub arithmetic_bin_op : ℕ
arithmetic_bin_op = 45

abbrev pub comparison_bin_op : ℕ
comparison_bin_op = 46

abbrev pub sizeof : ℕ
sizeof = 47

-- C: the compounds.
abbrev pub array_compound : ℕ
array_compound = 48

abbrev pub struct_compound : ℕ
struct_compound = 49

abbrev pub compound_field : ℕ
compound_field = 50

-- S: the statements.
abbrev pub block : ℕ
block = 64

abbrev pub expression_statement : ℕ
expression_statement = 65

abbrev pub variable_declaration : ℕ
variable_declaration = 66

abbrev pub assignment : ℕ
assignment = 67

abbrev pub compound_assignment : ℕ
compound_assignment = 68

abbrev pub return : ℕ
return = 69

abbrev pub loop : ℕ
loop = 70

abbrev pub while : ℕ
while = 71

abbrev pub break : ℕ
break = 72

abbrev pub if_statement : ℕ
if_statement = 73

abbrev pub inline_assembly : ℕ
inline_assembly = 74

-- The items.
abbrev pub function_definition : ℕ
function_definition = 80

abbrev pub type_alias : ℕ
type_alias = 81

abbrev pub use_item : ℕ
use_item = 82

abbrev pub global_declaration : ℕ
global_declaration = 83

abbrev pub assembly_item : ℕ
assembly_item = 84

abbrev pub parameter : ℕ
parameter = 85
