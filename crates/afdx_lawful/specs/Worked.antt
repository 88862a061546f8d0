-- Worked rows: a link of 64-byte frames, one a millisecond with a jitter of 500 us, that goes to a
-- system within 17 us and with a skew of a millisecond, on a line of 80 ns a byte.
use Rattle.std.specs.Prelude.{◌≡◌, ℕ, true, Option, Some, None, List, [], ◌∷◌}
use Rattle.afdx_frame.specs.declared.fault.IpFault.TheVariants.{BadIpHeader}
use Rattle.afdx_frame.specs.declared.fault.MacFault.TheVariants.{BadFcs}
use Rattle.afdx_frame.specs.declared.link.Policing.TheVariants.{Frame}
use Rattle.afdx_frame.specs.declared.link.Side.TheVariants.{A, B}
use Rattle.afdx_police.specs.Rule.{rule_with}
use Rattle.afdx_conform.specs.Leeway.{Leeway}
use Rattle.afdx_conform.specs.Leeways.{leeway_with}
use Rattle.afdx_lawful.specs.Judged.{Found, Judged, found_at, judged_source}
use Rattle.afdx_lawful.specs.Sources.{Came, Source, came_with}
use Rattle.afdx_lawful.specs.declared.finding.SenderFinding.TheVariants.{Unlawful, Number, Soon, Differs, Apart, Single}
use Rattle.afdx_lawful.specs.declared.finding.Flaw.TheVariants.{Damaged, NotItsAddress, Unread}

-- a frame of link 1 with the message `hello` and a byte more, on this network, and what ends it:
-- its number and check sequence
abbrev pub frame_with : ℕ → ℕ → List ℕ → List ℕ
frame_with network life end =
    3 ∷ 0 ∷ 0 ∷ 0 ∷ 0 ∷ 1 ∷ 2 ∷ 0 ∷ 0 ∷ 0 ∷ 1 ∷ network ∷ 8 ∷ 0 ∷ 69 ∷ 0 ∷ 0 ∷ 33 ∷ 0 ∷ 0 ∷ 0 ∷
    0 ∷ life ∷ 17 ∷ 205 ∷ 234 ∷ 10 ∷ 0 ∷ 1 ∷ 1 ∷ 224 ∷ 224 ∷ 0 ∷ 1 ∷ 3 ∷ 232 ∷ 3 ∷ 232 ∷ 0 ∷ 13 ∷
    0 ∷ 0 ∷ 104 ∷ 101 ∷ 108 ∷ 108 ∷ 111 ∷ 0 ∷ 0 ∷ 0 ∷ 0 ∷ 0 ∷ 0 ∷ 0 ∷ 0 ∷ 0 ∷ 0 ∷ 0 ∷ 0 ∷ end

-- with their numbers, on each network; a damaged one, and one with a wrong header checksum
abbrev pub a0 : List ℕ
a0 = frame_with 32 1 (0 ∷ 149 ∷ 23 ∷ 139 ∷ 81 ∷ [])

abbrev pub a1 : List ℕ
a1 = frame_with 32 1 (1 ∷ 3 ∷ 39 ∷ 140 ∷ 38 ∷ [])

abbrev pub a2 : List ℕ
a2 = frame_with 32 1 (2 ∷ 185 ∷ 118 ∷ 133 ∷ 191 ∷ [])

abbrev pub a6 : List ℕ
a6 = frame_with 32 1 (6 ∷ 160 ∷ 178 ∷ 232 ∷ 184 ∷ [])

abbrev pub a7 : List ℕ
a7 = frame_with 32 1 (7 ∷ 54 ∷ 130 ∷ 239 ∷ 207 ∷ [])

abbrev pub a255 : List ℕ
a255 = frame_with 32 1 (255 ∷ 24 ∷ 248 ∷ 137 ∷ 124 ∷ [])

abbrev pub b0 : List ℕ
b0 = frame_with 64 1 (0 ∷ 25 ∷ 210 ∷ 233 ∷ 180 ∷ [])

abbrev pub b1 : List ℕ
b1 = frame_with 64 1 (1 ∷ 143 ∷ 226 ∷ 238 ∷ 195 ∷ [])

abbrev pub b6 : List ℕ
b6 = frame_with 64 1 (6 ∷ 44 ∷ 119 ∷ 138 ∷ 93 ∷ [])

abbrev pub a0_damaged : List ℕ
a0_damaged = frame_with 32 1 (0 ∷ 106 ∷ 232 ∷ 116 ∷ 174 ∷ [])

abbrev pub b0_flawed : List ℕ
b0_flawed = frame_with 64 2 (0 ∷ 126 ∷ 210 ∷ 1 ∷ 249 ∷ [])

-- stamps, clocks and the start of the recordings; the distance that is given; the end
abbrev pub source : Leeway → Option ℕ → ℕ → Source
source by given until = record {
  rule = rule_with 1 1 1 64 64 500 Frame;
  system = 1;
  ways = record { skew = 1000000; latency = 17000; byte_ns = 80 } ∷ [];
  given = given;
  is_paired = true;
  by = by;
  until = until;
}

abbrev pub leeway : ℕ → ℕ → Option ℕ → Leeway
leeway slack drift start = leeway_with slack 0 drift 0 0 start

abbrev pub exact : Leeway
exact = leeway 0 0 None

abbrev pub from : ℕ → Leeway
from start = leeway 0 0 (Some start)

-- what is judged of frames, the newest first
abbrev pub judged : Leeway → ℕ → List Came → Judged
judged by until xs = judged_source (source by None until) xs

abbrev pub on_a : ℕ → ℕ → List ℕ → Came
on_a line time bytes = came_with line time A bytes

abbrev pub on_b : ℕ → ℕ → List ℕ → Came
on_b line time bytes = came_with line time B bytes

-- nothing is found
abbrev pub nothing : ℕ → ℕ → Judged
nothing sent cut = record { coming = []; on_a = []; on_b = []; sent = sent; cut = cut }

-- this is found when frames come
abbrev pub coming : List Found → ℕ → ℕ → Judged
coming found sent cut = record { coming = found; on_a = []; on_b = []; sent = sent; cut = cut }

-- and these on A have no partner
abbrev pub alone : List Found → List Found → ℕ → ℕ → Judged
alone found single sent cut =
    record { coming = found; on_a = single; on_b = []; sent = sent; cut = cut }

pub record WorkedRows : Type 0 where
  -- both copies at one time, and as far apart as the way leaves them; a nanosecond more
  pub paired : judged exact 0 (on_b 2 0 b0 ∷ on_a 1 0 a0 ∷ []) ≡ nothing 2 0
  pub as_late : judged exact 988760 (on_b 2 988760 b0 ∷ on_a 1 0 a0 ∷ []) ≡ nothing 2 0
  pub late : judged exact 988761 (on_b 2 988761 b0 ∷ on_a 1 0 a0 ∷ [])
      ≡ coming (found_at 988761 B (Apart 2 1) ∷ []) 1 0
  -- a copy may be behind the end, or not
  pub cut : judged exact 988759 (on_a 1 0 a0 ∷ []) ≡ nothing 1 1
  pub single : judged exact 988760 (on_a 1 0 a0 ∷ [])
      ≡ alone [] (found_at 100000000 A (Single 1) ∷ []) 0 0
  -- so long does a frame wait
  pub held : judged exact 100000000 (on_b 2 100000000 b0 ∷ on_a 1 0 a0 ∷ [])
      ≡ coming (found_at 100000000 B (Apart 2 99011240) ∷ []) 1 0
  pub let_go : judged exact 100000001 (on_b 2 100000001 b0 ∷ on_a 1 0 a0 ∷ [])
      ≡ alone [] (found_at 100000000 A (Single 1) ∷ []) 1 1
  -- numbers: one is left out; 0 stands first, and behind no other; 1 stands behind 255
  pub left_out : judged exact 0 (on_a 2 0 a2 ∷ on_a 1 0 a0 ∷ [])
      ≡ coming (found_at 0 A (Soon 2 500000) ∷ found_at 0 A (Number 2 1) ∷ []) 1 2
  pub not_first : judged exact 0 (on_a 1 0 a1 ∷ []) ≡ coming (found_at 0 A (Number 1 0) ∷ []) 0 1
  pub round : judged (from 0) 1000000 (on_a 2 1000000 a1 ∷ on_a 1 0 a255 ∷ []) ≡ nothing 2 2
  pub to_zero : judged (from 0) 1000000 (on_a 2 1000000 a0 ∷ on_a 1 0 a255 ∷ [])
      ≡ coming (found_at 1000000 A (Number 2 1) ∷ []) 1 2
  -- the number goes on from what came
  pub goes_on : judged exact 2000000 (on_a 3 2000000 a7 ∷ on_a 2 1000000 a6 ∷ on_a 1 0 a0 ∷ [])
      ≡ alone (found_at 1000000 A (Number 2 1) ∷ [])
      (found_at 101000000 A (Single 2) ∷ found_at 100000000 A (Single 1) ∷ []) 1 1
  -- a nanosecond too soon; so much sooner than a gap, but not twice in a row
  pub soon : judged exact 499999 (on_a 2 499999 a1 ∷ on_a 1 0 a0 ∷ [])
      ≡ coming (found_at 499999 A (Soon 2 1) ∷ []) 1 2
  pub by_jitter : judged exact 1499999
      (on_a 3 1499999 a2 ∷ on_a 2 500000 a1 ∷ on_a 1 0 a0 ∷ [])
      ≡ alone (found_at 1499999 A (Soon 3 1) ∷ [])
      (found_at 100500000 A (Single 2) ∷ found_at 100000000 A (Single 1) ∷ []) 0 1
  -- one that came too soon raises no level
  pub not_charged : judged exact 500000 (on_a 3 500000 a2 ∷ on_a 2 1 a1 ∷ on_a 1 0 a0 ∷ [])
      ≡ coming (found_at 1 A (Soon 2 499999) ∷ []) 2 3
  -- stamps that are off by a nanosecond each, and clocks by a thousandth
  pub slack : judged (leeway 1 0 None) 499998 (on_a 2 499998 a1 ∷ on_a 1 0 a0 ∷ []) ≡ nothing 2 2
  pub beyond_slack : judged (leeway 1 0 None) 499997 (on_a 2 499997 a1 ∷ on_a 1 0 a0 ∷ [])
      ≡ coming (found_at 499997 A (Soon 2 1) ∷ []) 1 2
  pub drift : judged (leeway 0 1000 None) 499501 (on_a 2 499501 a1 ∷ on_a 1 0 a0 ∷ [])
      ≡ nothing 2 2
  pub beyond_drift : judged (leeway 0 1000 None) 499500 (on_a 2 499500 a1 ∷ on_a 1 0 a0 ∷ [])
      ≡ coming (found_at 499500 A (Soon 2 1) ∷ []) 1 2
  -- an address of the other network; a damaged frame takes part in nothing
  pub address : judged exact 0 (on_b 1 0 a0 ∷ [])
      ≡ coming (found_at 0 B (Unlawful 1 NotItsAddress) ∷ []) 0 1
  pub damaged : judged exact 1 (on_a 2 1 a0 ∷ on_a 1 0 a0_damaged ∷ [])
      ≡ coming (found_at 0 A (Unlawful 1 (Damaged BadFcs)) ∷ []) 1 1
  -- the copy isn't the same
  pub differs : judged exact 0 (on_b 2 0 b0_flawed ∷ on_a 1 0 a0 ∷ [])
      ≡ coming (found_at 0 B (Differs 2) ∷ found_at 0 B (Unlawful 2 (Unread BadIpHeader)) ∷ []) 1 0
  -- a distance that is given, with stamps that are off
  pub given : judged_source (source (leeway 1 0 None) (Some 0) 1000003)
      (on_b 4 1000003 b1 ∷ on_a 3 1000000 a1 ∷ on_b 2 2 b0 ∷ on_a 1 0 a0 ∷ [])
      ≡ coming (found_at 1000003 B (Apart 4 3) ∷ []) 3 0
  -- recordings that began later: a copy may be before the start, but not where its side had begun
  pub before : judged (from 5) 3000000 (on_a 1 988764 a7 ∷ []) ≡ nothing 1 1
  pub behind : judged (from 5) 3000000 (on_a 1 988765 a7 ∷ [])
      ≡ alone [] (found_at 100988765 A (Single 1) ∷ []) 0 0
  pub begun : judged (from 0) 3000000 (on_a 2 10 a7 ∷ on_b 1 0 b6 ∷ [])
      ≡ alone [] (found_at 100000010 A (Single 2) ∷ []) 1 1
