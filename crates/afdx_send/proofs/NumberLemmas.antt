-- The numbers of a lawful stream: 0 comes first and never again.
use Rattle.std.proofs.Common.{◌≡◌, ◌≢◌, ℕ, zero, suc, ◌+◌, ◌<◌, ◌≤◌, Bool, true, false, List}
use Rattle.std.proofs.Common.{nat_eq, refl, ap, ◌∙◌, arith}
use Rattle.std.specs.Prelude.{Result, Ok, if◌then◌else◌}
use Rattle.std.specs.Option.{option_map}
use Rattle.std.proofs.lemmas.Bool.Decides.{nat_tests}
use Rattle.std.proofs.lemmas.Option.{slice_get_within}
use Rattle.afdx_frame.specs.Grammar.{Built}
use Rattle.afdx_frame.specs.Parts.{FrameParts, frame_of}
use Rattle.afdx_frame.specs.Reading.{BuiltIsComputed}
use Rattle.afdx_frame.specs.declared.fault.MacFault.{MacFault}
use Rattle.afdx_frame.specs.declared.link.Side.{Side}
use Rattle.afdx_frame.specs.declared.link.Side.TheVariants.{A, B}
use Rattle.afdx_frame.proofs.ListLemmas.{slice_get-within}
use Rattle.afdx_config.specs.LawfulStream.{IsSent}
use Rattle.afdx_config.specs.Numbers.{next_number, after_steps}
use Rattle.afdx_config.specs.Rows.{SystemRow, LinkRow}
use Rattle.afdx_config.specs.SentList.{Message, address_of, CanBeSent}
use Rattle.afdx_send.specs.Laws.{ZeroComesFirst}

-- a step leads to a number from 1 to 255
step-is : (n : ℕ) → n < 256 → (1 ≤ next_number n) × (next_number n < 256)
step-is n lt = by (nat_eq n 255) refl
  where
    by : (b : Bool) → nat_eq n 255 ≡ b → (1 ≤ (if b then 1 else n + 1)) × ((if b then 1 else n + 1) < 256)
    by true e = (omega arith, omega arith)
    by false e = (let ne : n ≢ 255 = grind (arith, nat_tests, e) in (omega arith, omega (arith, ne, lt)))

pub number-small : (k : ℕ) → after_steps k 0 < 256
unfolding after_steps
number-small zero = omega arith
number-small (suc k) = (step-is (after_steps k 0) (number-small k)).1

number-some : (k : ℕ) → 1 ≤ k → 1 ≤ after_steps k 0
unfolding after_steps
number-some zero some = absurd (omega (arith, some))
number-some (suc k) some = (step-is (after_steps k 0) (number-small k)).0

-- the same bytes have one number
one-number : (r : Result FrameParts MacFault) (p q : FrameParts) → r ≡ Ok p → r ≡ Ok q → p.number ≡ q.number
one-number r p q e f = (let same : p ≡ q = cc (e, f) in ap (λ (x : FrameParts). x.number) same)

never-zero : BuiltIsComputed → (s : SystemRow) (l : LinkRow) (side : Side) (k : ℕ) (sent m : Message)
    (bytes : List ℕ) → 1 ≤ k → CanBeSent s l sent → CanBeSent s l m
    → Built (address_of s l sent) (after_steps k 0) side sent.payload bytes
    → Built (address_of s l m) 0 side m.payload bytes → ⊥
never-zero computed s l side k sent m bytes some is can built zero_built =
    let small = number-small k in
    let this = computed (address_of s l sent) (after_steps k 0) side sent.payload is.buildable is.bytes
    (omega (arith, small)) in
    let none = computed (address_of s l m) 0 side m.payload can.buildable can.bytes (omega arith) in
    let number : after_steps k 0 ≡ 0 = one-number (frame_of bytes) _ _
    (ap frame_of (this.only_one bytes built) ∙ this.parts)
    (ap frame_of (none.only_one bytes zero_built) ∙ none.parts) in
    let more = number-some k some in
    omega (arith, number, more)

pub zero-comes-first : BuiltIsComputed → ZeroComesFirst
zero-comes-first computed s l messages stream lawful k y some at m can =
    let within = slice_get_within stream k y at in
    let count = lawful.message_count in
    let one = slice_get-within messages k (omega (arith, within, count)) in
    let number : ℕ = after_steps k 0 in
    let sent : IsSent s l (record { message = one.0; number = number }) y =
    lawful.sent k (record { message = one.0; number = number }) y
    (ap (option_map (λ (o : Message). record { message = o; number = number })) one.1) at in
    let is = lawful.sendable k one.0 one.1 in (
      λ built. never-zero computed s l A k one.0 m y.a some is can sent.a built,
      λ built. never-zero computed s l B k one.0 m y.b some is can sent.b built,
    )
