-- One link on one side, as it was recorded at its system's port and at the port of a receiver.
-- Lists have the newest first.
use Rattle.std.specs.Prelude.{◌≡◌, ◌==◌, IsTrue, false, List, [], filter, reverse}
use Rattle.afdx_frame.specs.Regulation.{is_bag}
use Rattle.afdx_frame.specs.declared.link.Side.{Side}
use Rattle.afdx_police.specs.Arrival.{Arrival}
use Rattle.afdx_conform.specs.Headline.{AreTheirFrames, GoByTime, IsExact}
use Rattle.afdx_conform.specs.Histories.{counts_of, judged_of}
use Rattle.afdx_conform.specs.Streams.{Gone, Terms}
use Rattle.afdx_lawful.specs.Accepted.{AreNamed, ComeUpTo, arrivals_of}
use Rattle.afdx_lawful.specs.Judged.{found_coming}
use Rattle.afdx_lawful.specs.Sources.{Came, Source, on_side}

-- A source and a stream are of one link, and judged with the same options: stamps and clocks are
-- exact, accounts are asked at once, and nothing went before.
pub record AreOfOneLink (s : Source) (z : Terms) : Type 0 where
  pub rule : z.rule ≡ s.rule
  pub options : z.by ≡ s.by
  pub exact : IsExact z
  pub bag : IsTrue (is_bag z.rule.bag_ms)

-- the source as it is judged where the other network isn't seen: all that can be found of a frame
-- are `unlawful`, `number` and `soon`
abbrev pub by_itself : Source → Source
by_itself s = record s { is_paired = false }

-- The frames that the system sent on a side name the link and came by time up to the end, and
-- nothing is found of them by that side alone.
pub record IsQuietOn (s : Source) (side : Side) (xs : List Came) : Type 0 where
  pub named : AreNamed s (on_side side xs)
  pub by_time : ComeUpTo s.until (on_side side xs)
  pub nothing : found_coming (by_itself s) (on_side side xs) ≡ []

-- Of these arrivals of the link on a side, in their order, those at its system's port are the
-- source's frames. Others may name the link, too: they came at a wrong port.
pub record AreItsArrivals (s : Source) (side : Side) (xs : List Came) (own : List Arrival)
    : Type 0 where
  pub at_port : filter (λ x. s.rule.port == x.port) own ≡ arrivals_of s side xs
  pub by_time : GoByTime own

-- Nothing is found of the stream of these arrivals and of what left, and nothing is open.
pub record IsShown (z : Terms) (own : List Arrival) (left : List Gone) : Type 0 where
  pub nothing : (judged_of z (reverse own) (reverse left)).findings ≡ []
  pub closed : (counts_of z (reverse own) (reverse left)).waiting ≡ 0

-- Then exactly the frames that the system sent on this side left the port, byte for byte and in
-- order, each within the latency and no sooner than it can.
abbrev pub SentIsWhatLeft : Type 0
SentIsWhatLeft =
    (s : Source) (z : Terms) (side : Side) (xs : List Came) (own : List Arrival)
    (left : List Gone) →
    AreOfOneLink s z →
    IsQuietOn s side xs →
    AreItsArrivals s side xs own →
    IsShown z own left →
    AreTheirFrames z (arrivals_of s side xs) left
