-- Worked examples, from the frames that leave the switch on: two links to the third of three
-- systems, one to a sampling port there and one to a queuing port.
use Rattle.std.specs.Prelude.{◌≡◌, ℕ, List, [], ◌∷◌, codes, slice_set}
use Rattle.afdx_frame.specs.declared.link.Side.{Side}
use Rattle.afdx_frame.specs.declared.link.Side.TheVariants.{A, B}
use Rattle.afdx_frame.specs.declared.link.Priority.TheVariants.{Low}
use Rattle.afdx_frame.specs.declared.link.Policing.TheVariants.{Frame}
use Rattle.afdx_frame.specs.Sealing.{sealed}
use Rattle.afdx_config.specs.declared.rows.Kind.TheVariants.{Sampling, Queuing}
use Rattle.afdx_config.specs.Rows.{Rows, SystemRow, example_link}
use Rattle.afdx_end_systems.specs.Handovers.{HandedOver}
use Rattle.afdx_end_systems.specs.Receptions.{lines_of, delivered_in}

abbrev pub system_on : List ℕ → ℕ → SystemRow
system_on name port = record { name = name; port = port; id = port; partition = 1; rate = 100 }

abbrev pub base : Rows
base = record {
  profile = 1;
  buffer = 252;
  own = 3;
  systems = system_on (codes "s1") 1 ∷ system_on (codes "s2") 2 ∷ system_on (codes "s3") 3 ∷ [];
  links =
      (record example_link { to = 2 ∷ []; policing = Frame; latency_us = 17; subs = 2 })
      ∷ (record example_link {
        vl = 2;
        from = 1;
        to = 2 ∷ [];
        priority = Low;
        policing = Frame;
        latency_us = 21;
      }) ∷ [];
  ports =
      (record { system = 2; link = 1; udp = 1000; kind = Sampling; depth = 1 })
      ∷ (record { system = 2; link = 2; udp = 2000; kind = Queuing; depth = 4 }) ∷ [];
}

-- all but the check sequence of a frame with this sequence number: link 1 with the message `hello`,
-- and link 2 with `world`
abbrev pub hello_unsealed : ℕ → List ℕ
hello_unsealed number =
    3 ∷ 0 ∷ 0 ∷ 0 ∷ 0 ∷ 1 ∷ 2 ∷ 0 ∷ 0 ∷ 0 ∷ 1 ∷ 32 ∷ 8 ∷ 0 ∷ 69 ∷ 0 ∷ 0 ∷ 33 ∷ 0 ∷ 0 ∷
    0 ∷ 0 ∷ 1 ∷ 17 ∷ 205 ∷ 234 ∷ 10 ∷ 0 ∷ 1 ∷ 1 ∷ 224 ∷ 224 ∷ 0 ∷ 1 ∷ 3 ∷ 232 ∷ 3 ∷ 232 ∷ 0 ∷ 13 ∷
    0 ∷ 0 ∷ 104 ∷ 101 ∷ 108 ∷ 108 ∷ 111 ∷ 0 ∷ 0 ∷ 0 ∷ 0 ∷ 0 ∷ 0 ∷ 0 ∷ 0 ∷ 0 ∷ 0 ∷ 0 ∷ 0 ∷
    number ∷ []

abbrev pub world_unsealed : ℕ → List ℕ
world_unsealed number =
    3 ∷ 0 ∷ 0 ∷ 0 ∷ 0 ∷ 2 ∷ 2 ∷ 0 ∷ 0 ∷ 0 ∷ 2 ∷ 32 ∷ 8 ∷ 0 ∷ 69 ∷ 0 ∷ 0 ∷ 33 ∷ 0 ∷ 0 ∷
    0 ∷ 0 ∷ 1 ∷ 17 ∷ 204 ∷ 233 ∷ 10 ∷ 0 ∷ 2 ∷ 1 ∷ 224 ∷ 224 ∷ 0 ∷ 2 ∷ 7 ∷ 208 ∷ 7 ∷ 208 ∷ 0 ∷ 13 ∷
    0 ∷ 0 ∷ 119 ∷ 111 ∷ 114 ∷ 108 ∷ 100 ∷ 0 ∷ 0 ∷ 0 ∷ 0 ∷ 0 ∷ 0 ∷ 0 ∷ 0 ∷ 0 ∷ 0 ∷ 0 ∷ 0 ∷
    number ∷ []

abbrev pub at_third : Side → ℕ → ℕ → List ℕ → HandedOver
at_third side time line bytes =
    record { side = side; port = 3; time = time; line = line; bytes = sealed bytes }

abbrev pub hello : Side → ℕ → ℕ → ℕ → HandedOver
hello side time line number = at_third side time line (hello_unsealed number)

abbrev pub world : Side → ℕ → ℕ → ℕ → HandedOver
world side time line number = at_third side time line (world_unsealed number)

-- `hello` with another byte, or another byte and another header checksum
abbrev pub changed : ℕ → ℕ → HandedOver
changed place byte = at_third A 6720 1 (slice_set (hello_unsealed 0) place byte)

abbrev pub changed_there : ℕ → ℕ → ℕ → ℕ → HandedOver
changed_there place byte high low =
    at_third A 6720 1
    (slice_set (slice_set (slice_set (hello_unsealed 0) place byte) 24 high) 25 low)

-- what is told of three frames of one link on side A, by their numbers
abbrev pub told_three : ℕ → ℕ → ℕ → ℕ → List ℕ
told_three first second third last =
    lines_of base (hello A last 3 third ∷ hello A 1006720 2 second ∷ hello A 6720 1 first ∷ [])

pub record WorkedRows : Type 0 where
  pub high_first : lines_of base (world A 13440 1 0 ∷ hello A 6720 2 0 ∷ [])
      ≡ codes "M 6720 s3 1 68656c6c6f\nM 13440 s3 2 776f726c64\n"
  pub low_first : lines_of base (hello A 13440 2 0 ∷ world A 6720 1 0 ∷ [])
      ≡ codes "M 6720 s3 2 776f726c64\nM 13440 s3 1 68656c6c6f\n"
  pub copy : lines_of base (hello B 6720 2 0 ∷ hello A 6720 1 0 ∷ [])
      ≡ codes "M 6720 s3 1 68656c6c6f\nX 6720 s3 2 redundant\n"
  pub counted : delivered_in base (hello B 6720 2 0 ∷ hello A 6720 1 0 ∷ []) ≡ 1
  pub gap : told_three 5 8 9 2006720
      ≡ codes "M 6720 s3 1 68656c6c6f\nX 1006720 s3 2 sequence\nM 2006720 s3 1 68656c6c6f\n"
  pub around : told_three 254 255 1 2006720
      ≡ codes "M 6720 s3 1 68656c6c6f\nM 1006720 s3 1 68656c6c6f\nM 2006720 s3 1 68656c6c6f\n"
  pub again : lines_of base (hello A 1006720 2 4 ∷ hello A 6720 1 4 ∷ [])
      ≡ codes "M 6720 s3 1 68656c6c6f\nX 1006720 s3 2 sequence\n"
  pub restart : told_three 3 0 0 1006721
      ≡ codes "M 6720 s3 1 68656c6c6f\nX 1006720 s3 2 redundant\nM 1006721 s3 1 68656c6c6f\n"
  pub not_ipv4 : lines_of base (changed 13 6 ∷ []) ≡ codes "X 6720 s3 1 not-ipv4\n"
  pub bad_header : lines_of base (changed 25 0xeb ∷ []) ≡ codes "X 6720 s3 1 bad-ip-header\n"
  pub fragment : lines_of base (changed_there 20 0x20 0xad 0xea ∷ [])
      ≡ codes "X 6720 s3 1 fragment\n"
  pub not_udp : lines_of base (changed_there 23 1 0xcd 0xfa ∷ []) ≡ codes "X 6720 s3 1 not-udp\n"
  pub bad_length : lines_of base (changed 39 0x0c ∷ []) ≡ codes "X 6720 s3 1 bad-udp-length\n"
  pub no_port : lines_of base (changed 37 0xe9 ∷ []) ≡ codes "X 6720 s3 1 no-port\n"
