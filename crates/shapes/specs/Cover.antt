-- When a shape covers another: their join is the first. (Unknown covers all; a composite with unknown places covers each of its kind and size; every
-- shape covers itself.) The crate's law `covers-join` says that this is when the join adds nothing.
use Rattle.std.specs.Prelude.{Bool, ◌&&◌, List, length, eqb}
use Rattle.definition.specs.Shapes.{Shape as AnyShape, same_shape, same_shapes, join, join_all}
use Rattle.definition.specs.Walk.{State as AnyState}

-- of shapes
unfoldable pub covers : AnyShape → AnyShape → Bool
covers a b = same_shape (join a b) a

-- of operands or locals, one by one
unfoldable pub covers_all : List AnyShape → List AnyShape → Bool
covers_all xs ys = same_shapes (join_all xs ys) xs

-- of states: of one height, and each operand and local
unfoldable pub covers_state : AnyState → AnyState → Bool
covers_state a b = eqb (length a.stack) (length b.stack) && covers_all a.stack b.stack && covers_all a.locals b.locals
