-- A row's call goes to the records below the first, any other to a row of the same records or of fewer.
use Rattle.std.proofs.Common.{◌+◌, ◌*◌, ◌≤◌, length}
use Rattle.script.proofs.rows.Trees.+show.Given as goal

abbrev pub decreases-show_child : goal.decreases-show_child
decreases-show_child l = 2 * length l.self.records.now + 1

abbrev pub decreases-show_fields : goal.decreases-show_fields
decreases-show_fields l = 2 * length l.self.records.now + 1

abbrev pub decreases-show_list : goal.decreases-show_list
decreases-show_list l = 2 * length l.self.records.now + 1

abbrev pub decreases-show_row : goal.decreases-show_row
decreases-show_row l = 2 * length l.self.records.now

abbrev pub invariant-show_fields-loop-field : goal.invariant-show_fields-loop-field
invariant-show_fields-loop-field l = length l.left.records.now ≤ length l.self.records.now

abbrev pub decreases-show_fields-loop-field : goal.decreases-show_fields-loop-field
decreases-show_fields-loop-field l = length l.left.records.now
