use Rattle.std.proofs.Common.{◌≡◌, ℕ, length, get_or, None}
use Rattle.afdx_senders.proofs.followed.FollowedSources.new.Given as goal

abbrev pub invariant-loop : goal.invariant-loop
invariant-loop l = (length l.slots.items ≡ l.counter) × ((i : ℕ) → get_or l.slots.items i None ≡ None)
