-- Frames of which nothing is found are long enough for their link; and a way leaves the copies of
-- longer frames no less.
use Rattle.std.proofs.Common.{◌≡◌, ℕ, ◌+◌, ◌*◌, ◌≤◌, Bool, true, false, List, [], ◌∷◌, length, inl, inr, ◌⊎◌, subst, arith, refl}
use Rattle.std.specs.Option.{option_or}
use Rattle.std.specs.Prelude.{if◌then◌else◌, nat_lt, not, Option, Some, None, Result, Ok, Err}
use Rattle.std.specs.Str.{bytes_eq}
use Rattle.std.proofs.Math.Nat.{mul-le-mul}
use Rattle.std.proofs.lemmas.Bool.{ltb-false}
use Rattle.afdx_frame.specs.Carried.{carried_by}
use Rattle.afdx_frame.specs.Parts.{FrameParts, frame_of}
use Rattle.afdx_frame.specs.Sides.{is_side}
use Rattle.afdx_frame.specs.declared.fault.MacFault.{MacFault}
use Rattle.afdx_frame.specs.declared.link.Side.{Side}
use Rattle.afdx_lawful.proofs.CleanLemmas.{AreClean}
use Rattle.afdx_lawful.specs.Flaws.{address_in, address_of, flaw_carrying, flaw_in, flaw_of}
use Rattle.afdx_lawful.specs.Sources.{Came, Source, Way, apart_by, least_left, left_by, on_side}
use Rattle.afdx_lawful.specs.declared.finding.Flaw.{Flaw}
use Rattle.afdx_lawful.specs.declared.finding.Flaw.TheVariants.{NotItsAddress, OverLmax, UnderLmin}
use Rattle.afdx_police.specs.Shape.{first_of}
use Rattle.afdx_law_recorded.proofs.PlaceLemmas.{IsNewest, IsOlder, stands-cases, stands_at}

-- ---- a frame is long enough

under-none : (a b c : Bool) (o : Option Flaw) →
    option_or (first_of ((a, OverLmax) ∷ (b, UnderLmin) ∷ (c, NotItsAddress) ∷ [])) o ≡ None → b ≡ false
under-none true b c o h = absurd (cc h)
under-none false true c o h = absurd (cc h)
under-none false false c o h = refl

IsLong : Source → Came → Type 0
IsLong s x = s.rule.lmin ≤ length x.bytes

flawless-long : (s : Source) (x : Came) → flaw_of s x ≡ None → IsLong s x
unfolding flaw_of IsLong
flawless-long s x h = by (frame_of x.bytes) h
  where
    by : (r : Result FrameParts MacFault) → flaw_in s x r ≡ None → s.rule.lmin ≤ length x.bytes
    by (Ok parts) e = ltb-false (length x.bytes) s.rule.lmin
        (under-none (nat_lt s.rule.lmax (length x.bytes)) (nat_lt (length x.bytes) s.rule.lmin)
        (not (bytes_eq (address_in x.bytes) (address_of s.system x.side))) (flaw_carrying (carried_by x.bytes)) e)
    by (Err fault) e = absurd (cc e)

AreLong : Source → List Came → Type 0
AreLong s [] = Unit {0}
AreLong s (x ∷ past) = IsLong s x × AreLong s past

long-on : (s : Source) (side : Side) (xs : List Came) → AreClean s xs → AreLong s (on_side side xs)
unfolding AreClean AreLong
long-on s side [] h = tt
long-on s side (x ∷ past) h = by (is_side side x.side) (long-on s side past h.1)
  where
    by : (b : Bool) → AreLong s (on_side side past) →
        AreLong s (if b then x ∷ on_side side past else on_side side past)
    by true more = (flawless-long s x h.0.flawless, more)
    by false more = more

long-at : (s : Source) (ys : List Came) (k : ℕ) (y : Came) → AreLong s ys → stands_at ys k ≡ Some y → IsLong s y
unfolding AreLong stands_at
long-at s [] k y h e = absurd (cc e)
long-at s (x ∷ past) k y h e = by (stands-cases x past k y e) (λ f. long-at s past k y h.1 f)
  where
    by : IsNewest x past k y ⊎ IsOlder past k y → (stands_at past k ≡ Some y → IsLong s y) → IsLong s y
    by (inl newest) more = subst (λ (w : Came). IsLong s w) newest.same h.0
    by (inr older) more = more older.stands

pub long-one : (s : Source) (xs : List Came) → AreClean s xs → (side : Side) (k : ℕ) (y : Came) →
    stands_at (on_side side xs) k ≡ Some y → s.rule.lmin ≤ length y.bytes
unfolding IsLong
long-one s xs clean side k y here = long-at s (on_side side xs) k y (long-on s side xs clean) here

-- ---- what is left of longer frames

left-up : (way : Way) (a b : ℕ) → a ≤ b → left_by way a ≤ left_by way b
left-up way a b le =
    let longer : (a + 8) * way.byte_ns ≤ (b + 8) * way.byte_ns =
    mul-le-mul {n₁ = a + 8} {m₁ = way.byte_ns} {n₂ = b + 8} {m₂ = way.byte_ns} (omega (arith, le)) (omega arith) in
    omega (arith, longer)

least-up : (ways : List Way) (a b : ℕ) → a ≤ b → least_left ways a ≤ least_left ways b
unfolding least_left
least-up [] a b le = omega arith
least-up (way ∷ []) a b le = left-up way a b le
least-up (way ∷ next ∷ more) a b le =
    let one = left-up way a b le in
    let rest = least-up (next ∷ more) a b le in
    omega (arith, one, rest)

pub apart-up : (s : Source) (given : Option ℕ) (a b : ℕ) → a ≤ b → apart_by s given a ≤ apart_by s given b
apart-up s None a b le = least-up s.ways a b le
apart-up s (Some ns) a b le = omega arith
