-- What a receiver reads in bytes, from the bytes alone, and what it reads in what was built.
use Rattle.std.specs.Prelude.{◌≡◌, ℕ, ◌<◌, ◌^◌, Ok, List, length}
use Rattle.afdx_frame.specs.declared.link.Side.{Side}
use Rattle.afdx_frame.specs.declared.builder.Address.{Address}
use Rattle.afdx_frame.specs.Sealing.{AreBytes}
use Rattle.afdx_frame.specs.Grammar.{Read, Built, Buildable, built_length, built_body, built_frame}
use Rattle.afdx_frame.specs.Parts.{FrameParts, frame_of}
use Rattle.afdx_frame.specs.Carried.{Carried, carried_by}

-- the frame that the bytes are carries this
abbrev pub Reads : List ℕ → FrameParts → Carried → Type 0
Reads bytes p c = Read bytes p.link.0 c.from_port c.to_port c.payload p.number

-- no fields make the bytes a frame that is read
abbrev pub NoneRead : List ℕ → Type 0
NoneRead bytes =
    (vl from_port to_port number : ℕ) (payload : List ℕ) →
    Read bytes vl from_port to_port payload number → ⊥

-- bytes are read exactly where the frame and what it carries are computed, and with these fields
-- alone
pub record ReadingIsComputed : Type 0 where
  pub computed : (bytes : List ℕ) (p : FrameParts) (c : Carried) →
      AreBytes bytes →
      frame_of bytes ≡ Ok p →
      carried_by bytes ≡ Ok c →
      Reads bytes p c
  pub only_one : (bytes : List ℕ) (vl from_port to_port number : ℕ) (payload : List ℕ) →
      AreBytes bytes →
      Read bytes vl from_port to_port payload number →
      (p : FrameParts) × (frame_of bytes ≡ Ok p) × (p.link ≡ record { 0 = vl })
      × (p.number ≡ number)
      × (carried_by bytes ≡ Ok (record {
        from_port = from_port;
        to_port = to_port;
        payload = payload;
      }))

-- the bytes are the one frame that the builder gives, and they are read as what it was given
pub record IsTheFrame (a : Address) (number : ℕ) (side : Side) (p frame : List ℕ) : Type 0 where
  pub built : Built a number side p frame
  pub only_one : (other : List ℕ) → Built a number side p other → other ≡ frame
  pub bytes : AreBytes frame
  pub long : length frame ≡ built_length a (length p)
  pub parts :
      frame_of frame
      ≡ Ok (record { link = a.vl; kind = 0x0800; body = built_body a p; number = number })
  pub carried :
      carried_by frame ≡ Ok (record { from_port = a.from_udp; to_port = a.to_udp; payload = p })

-- the frame that is computed is the one that is built
abbrev pub BuiltIsComputed : Type 0
BuiltIsComputed =
    (a : Address) (number : ℕ) (side : Side) (p : List ℕ) →
    Buildable a p →
    AreBytes p →
    number < 2 ^ 8 →
    IsTheFrame a number side p (built_frame a number side p)
