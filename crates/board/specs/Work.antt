-- The work that a board holds. Assumes nothing.
use Rattle.std.specs.Prelude.{vec_items}
use Rattle.meaning.specs.Work.{Work}
use Rattle.board.specs.declared.board.Board.{Board}
use Rattle.board.specs.Store.{Store, work}

-- the tables of a board
abbrev pub store : Board → Store
store b = record { values = b.values; rows = vec_items b.rows; duties = vec_items b.duties.list; later = vec_items b.carried.list; next = b.next }

-- the work that they are
abbrev pub work_of : Board → Work
work_of b = work (store b)
