use Rattle.std.proofs.Common.{◌≡◌, ℕ, ◌+◌, ◌*◌, ◌≤◌, length}
use Rattle.json.specs.Json.{items, members, value}
use Rattle.serde_json.specs.Data.{Members}
use Rattle.serde_json.specs.Read.{of_items, of_members, converted}
use Rattle.capture_read.specs.Members.{items_at, members_at, IsSaid}
use Rattle.capture_read.proofs.MembersRead.{Before}
use Rattle.capture_read.proofs.members.+value.Given as goal

abbrev pub decreases-value : goal.decreases-value
decreases-value l = 2 * l.depth

abbrev pub decreases-items : goal.decreases-items
decreases-items l = 2 * l.depth + 1

abbrev pub decreases-members : goal.decreases-members
decreases-members l = 2 * l.depth + 1

-- the items to come are read where all are
abbrev pub invariant-items-items : goal.invariant-items-items
invariant-items-items l =
    (n : ℕ) × (length l.reader ≤ n) × Before (items_at l.depth l.initial.reader) (converted of_items (items (value l.depth) n l.reader))
    × (length l.reader ≤ length l.initial.reader)

abbrev pub decreases-items-items : goal.decreases-items-items
decreases-items-items l = length l.reader

-- the members to come, put into those that were, are all; and these were said
abbrev pub invariant-members-members : goal.invariant-members-members
invariant-members-members l =
    (n : ℕ) × (before : Members) × (length l.reader ≤ n)
    × (members_at l.depth l.initial.reader ≡ converted (λ ms. of_members ms before) (members (value l.depth) n l.reader))
    × IsSaid l.said before × (length l.reader ≤ length l.initial.reader)

abbrev pub decreases-members-members : goal.decreases-members-members
decreases-members-members l = length l.reader
