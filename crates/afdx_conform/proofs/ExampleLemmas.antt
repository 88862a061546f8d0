-- A right switch, of which one frame was recorded.
use Rattle.std.proofs.Common.{[], ◌∷◌, refl, arith}
use Rattle.std.specs.Prelude.{None}
use Rattle.afdx_frame.specs.declared.link.Policing.TheVariants.{Frame}
use Rattle.afdx_frame.specs.declared.link.Side.TheVariants.{A}
use Rattle.afdx_police.specs.Arrival.{arrival_with}
use Rattle.afdx_police.specs.Rule.{rule_with}
use Rattle.afdx_police.specs.Window.{keeps_windows}
use Rattle.afdx_conform.specs.Streams.{Gone, Terms}
use Rattle.afdx_conform.specs.Right.{Asked, accepted_after, accepted_asked, GoByClock, EachLeaves, AllLeaveLater, SomeIsRight}

terms : Terms
terms = record {
  rule = rule_with 1 1 1 64 64 500 Frame;
  latency_ns = 17000;
  byte_ns = 80;
  by = record { slack = 1; between = 20000; drift = 100; inner = 0; asked = 10; start = None };
  until = 1000000;
}

asked : Asked
asked = record {
  arrival = arrival_with 1 1001 A 1 [];
  moment = 1000;
  clock = 1000;
  asked_at = 1007;
  asked_clock = 1007;
}

frame : Gone
frame = record { number = 1; time = 28001; bytes = [] }

pub some_is_right : SomeIsRight
unfolding terms asked frame accepted_asked accepted_after keeps_windows GoByClock EachLeaves AllLeaveLater
some_is_right = record {
  terms = terms;
  asked = asked;
  frame = frame;
  slack = omega arith;
  drift = omega arith;
  apart = omega arith;
  is_right = record {
    first = [];
    moment = 0;
    clock = 0;
    is_first = refl;
    go_on = (
      record { moments = omega arith; clocks = omega arith; slowest = omega arith; fastest = omega arith },
      record {
        stamped = record { late = omega arith; early = omega arith };
        not_before = omega arith;
        soon = omega arith;
      },
      tt,
    );
    waiting = [];
    took = asked ∷ [];
    accepted = refl;
    later = tt;
    leave = (
      record {
        bytes = refl;
        moment = 8000;
        clock = 8000;
        goes_on = record { moments = omega arith; clocks = omega arith; slowest = omega arith; fastest = omega arith };
        stamped = record { late = omega arith; early = omega arith };
        no_sooner = omega arith;
        in_time = omega arith;
      },
      tt,
    );
  };
}
