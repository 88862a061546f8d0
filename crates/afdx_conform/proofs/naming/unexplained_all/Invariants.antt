use Rattle.std.proofs.Common.{◌≡◌, ℕ, map, take, length, vec_len, vec_capacity}
use Rattle.afdx_conform.specs.Findings.{Judged}
use Rattle.afdx_conform.specs.Limits.{AreLimits, gone_of}
use Rattle.afdx_conform.specs.Marks.{marked_all, told}
use Rattle.afdx_conform.specs.Naming.{AreSettled, unexplained_all}
use Rattle.afdx_conform.specs.Streams.{Terms}
use Rattle.afdx_conform.proofs.naming.unexplained_all.Given as goal

abbrev pub invariant-loop-frame : goal.invariant-loop-frame
invariant-loop-frame l = record {
  same : (z : Terms) (time : ℕ) (j : Judged) → AreLimits z l.limits
      → j.arrivals ≡ marked_all l.recorded.arrivals.now l.initial.marks.items
      → told time l.found.items (marked_all l.recorded.arrivals.now l.marks.items) j
      ≡ unexplained_all z time (map gone_of (take l.frame-index l.recorded.frames.now)) j;
  size : length l.marks.items ≡ length l.initial.marks.items;
  same_known : l.known ≡ record l.initial.known { gaps = l.known.gaps };
  settled : AreSettled l.known.gaps.items l.recorded.arrivals.now l.marks.items;
  count : vec_len l.found ≡ l.frame-index;
  room : vec_capacity l.found ≡ vec_capacity l.initial.found;
  kept : vec_capacity l.marks ≡ vec_capacity l.initial.marks;
}
