use Rattle.shape.specs.Shape.{due_in}
use Rattle.shape.proofs.due_in.Goals as goal

pub returns-in-Nothing : goal.returns-in-Nothing
unfolding due_in
returns-in-Nothing c = rw c.in-Nothing.is c.nothing_due.ensures

pub returns-in-FreeBytes : goal.returns-in-FreeBytes
unfolding due_in
returns-in-FreeBytes c = rw c.in-FreeBytes.is c.bytes_due.ensures

pub returns-in-OneModule : goal.returns-in-OneModule
unfolding due_in
returns-in-OneModule c = rw c.in-OneModule.is c.must_be.ensures

pub returns-in-NamesThenItems : goal.returns-in-NamesThenItems
unfolding due_in
returns-in-NamesThenItems c = rw c.in-NamesThenItems.is c.must_be-in-NamesThenItems.ensures

pub returns-in-Items : goal.returns-in-Items
unfolding due_in
returns-in-Items c = rw c.in-Items.is c.may_be.ensures

pub returns-in-Names : goal.returns-in-Names
unfolding due_in
returns-in-Names c = rw c.in-Names.is c.may_be-in-Names.ensures

pub returns-in-OneType : goal.returns-in-OneType
unfolding due_in
returns-in-OneType c = rw c.in-OneType.is c.must_be-in-OneType.ensures

pub returns-in-Fields : goal.returns-in-Fields
unfolding due_in
returns-in-Fields c = rw c.in-Fields.is c.may_be-in-Fields.ensures

pub returns-in-OneExpression : goal.returns-in-OneExpression
unfolding due_in
returns-in-OneExpression c = rw c.in-OneExpression.is c.must_be-in-OneExpression.ensures

pub returns-in-TwoExpressions : goal.returns-in-TwoExpressions
unfolding due_in
returns-in-TwoExpressions c = rw c.in-TwoExpressions.is c.must_be-in-TwoExpressions.ensures

pub returns-in-CallParts : goal.returns-in-CallParts
unfolding due_in
returns-in-CallParts c = rw c.in-CallParts.is c.must_be-in-CallParts.ensures

pub returns-in-Expressions : goal.returns-in-Expressions
unfolding due_in
returns-in-Expressions c = rw c.in-Expressions.is c.may_be-in-Expressions.ensures

pub returns-in-ExpressionThenType : goal.returns-in-ExpressionThenType
unfolding due_in
returns-in-ExpressionThenType c = rw c.in-ExpressionThenType.is c.must_be-in-ExpressionThenType.ensures

pub returns-in-CompoundFields : goal.returns-in-CompoundFields
unfolding due_in
returns-in-CompoundFields c = rw c.in-CompoundFields.is c.may_be-in-CompoundFields.ensures

pub returns-in-Statements : goal.returns-in-Statements
unfolding due_in
returns-in-Statements c = rw c.in-Statements.is c.may_be-in-Statements.ensures

pub returns-in-Declaration : goal.returns-in-Declaration
unfolding due_in
returns-in-Declaration c = rw c.in-Declaration.is c.must_be-in-Declaration.ensures

pub returns-in-InitialValue : goal.returns-in-InitialValue
unfolding due_in
returns-in-InitialValue c = rw c.in-InitialValue.is c.may_be_either.ensures

pub returns-in-ExpressionThenCompound : goal.returns-in-ExpressionThenCompound
unfolding due_in
returns-in-ExpressionThenCompound c = rw c.in-ExpressionThenCompound.is c.must_be-in-ExpressionThenCompound.ensures

pub returns-in-OneCompound : goal.returns-in-OneCompound
unfolding due_in
returns-in-OneCompound c = rw c.in-OneCompound.is c.must_be-in-OneCompound.ensures

pub returns-in-OptionalExpression : goal.returns-in-OptionalExpression
unfolding due_in
returns-in-OptionalExpression c = rw c.in-OptionalExpression.is c.may_be-in-OptionalExpression.ensures

pub returns-in-OneStatement : goal.returns-in-OneStatement
unfolding due_in
returns-in-OneStatement c = rw c.in-OneStatement.is c.must_be-in-OneStatement.ensures

pub returns-in-ExpressionThenStatement : goal.returns-in-ExpressionThenStatement
unfolding due_in
returns-in-ExpressionThenStatement c = rw c.in-ExpressionThenStatement.is c.must_be-in-ExpressionThenStatement.ensures

pub returns-in-IfParts : goal.returns-in-IfParts
unfolding due_in
returns-in-IfParts c = rw c.in-IfParts.is c.must_be-in-IfParts.ensures

pub returns-in-ThenPart : goal.returns-in-ThenPart
unfolding due_in
returns-in-ThenPart c = rw c.in-ThenPart.is c.must_be-in-ThenPart.ensures

pub returns-in-OptionalStatement : goal.returns-in-OptionalStatement
unfolding due_in
returns-in-OptionalStatement c = rw c.in-OptionalStatement.is c.may_be-in-OptionalStatement.ensures

pub returns-in-FunctionParts : goal.returns-in-FunctionParts
unfolding due_in
returns-in-FunctionParts c = rw c.in-FunctionParts.is c.must_be-in-FunctionParts.ensures

pub returns-in-Parameters : goal.returns-in-Parameters
unfolding due_in
returns-in-Parameters c = rw c.in-Parameters.is c.may_be_either-in-Parameters.ensures
