-- The logical type of a list, for clauses about the value behind a `&mut` reference.
use Rattle.std.specs.Borrow.{RattleType}
use Rattle.std.specs.contracts.alloc.Global as global
use Rattle.std.specs.contracts.vec.Vec as vec
use Rattle.std.specs.contracts.impls.GlobalAllocator.TheImpl.{ghosts}

abbrev pub list_row : RattleType → RattleType
list_row member = vec.the_row member global.the_row ghosts
