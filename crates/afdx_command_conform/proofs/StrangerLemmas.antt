-- Which frames that left are of no stream.
use Rattle.std.proofs.Common.{◌≡◌, ℕ, Bool, true, false, ◌&&◌, ◌||◌, refl, sym, ap, ◌∙◌, true≢false}
use Rattle.std.proofs.lemmas.Bool.{and_parts}
use Rattle.std.specs.Option.{option_map_or}
use Rattle.std.specs.Prelude.{Option, Some, None, is_some, not, option_and_then, slice_get}
use Rattle.afdx_config.specs.Rows.{LinkRow, Rows}
use Rattle.afdx_frame.specs.declared.link.Side.{Side}
use Rattle.afdx_police.specs.Arrival.{Arrival}
use Rattle.afdx_input_lines.specs.declared.role.Role.TheVariants.{Left}
use Rattle.afdx_input_runs.specs.Joining.{Frame}
use Rattle.afdx_command_conform.specs.Frames.{is_stranger}
use Rattle.afdx_command_conform.specs.Sight.{Sight}
use Rattle.afdx_command_conform.specs.Tapped.{goes_there, is_damaged, is_heard, is_heard_at, is_judged, is_of_came, is_unheard, link_to, place_named}

-- the link at this place
pub heard-at : (t : Rows) (sight : Sight) (side : Side) (place : ℕ) (l : LinkRow) → slice_get t.links place ≡ Some l
    → is_heard_at t sight side (Some place) ≡ is_heard t sight side l
heard-at t sight side place l at = ap (λ o. option_map_or (is_heard t sight side) o true) at

pub judged-heard : (t : Rows) (sight : Sight) (side : Side) (place port : ℕ) (l : LinkRow) → slice_get t.links place
    ≡ Some l
    → is_judged t sight side l port ≡ true → is_heard_at t sight side (Some place) ≡ true
judged-heard t sight side place port l at judged =
    heard-at t sight side place l at ∙ (and_parts (is_heard t sight side l) (sight.is_seen side port) judged).0

pub goes-named : (t : Rows) (a : Arrival) (named : Option ℕ) → place_named t a.bytes ≡ named
    → goes_there t a ≡ is_some (option_and_then (λ place. link_to t place a.port) named)
unfolding goes_there
goes-named t a named is = ap (λ o. is_some (option_and_then (λ place. link_to t place a.port) o)) is

or-true : (b : Bool) → (b || true) ≡ true
or-true true = refl
or-true false = refl

pub stranger-no : (t : Rows) (sight : Sight) (a : Arrival) (place : ℕ) (l : LinkRow) → place_named t a.bytes ≡
    Some place
    → link_to t place a.port ≡ Some l → is_heard_at t sight a.side (Some place) ≡ true → is_stranger t sight a ≡ false
unfolding is_stranger
stranger-no t sight a place l named to heard =
    ap (λ v. not v || not (is_heard_at t sight a.side (place_named t a.bytes)))
    (goes-named t a (Some place) named ∙ ap is_some to)
    ∙ ap (λ o. not (is_heard_at t sight a.side o)) named ∙ ap not heard

pub stranger-none : (t : Rows) (sight : Sight) (a : Arrival) (port : ℕ) (named : Option ℕ) → a.port ≡ port
    → place_named t a.bytes ≡ named → option_and_then (λ place. link_to t place port) named ≡ None
    → is_stranger t sight a ≡ true
unfolding is_stranger
stranger-none t sight a port named at is none =
    ap (λ v. not v || not (is_heard_at t sight a.side (place_named t a.bytes)))
    (goes-named t a named is ∙ ap (λ p. is_some (option_and_then (λ place. link_to t place p) named)) at
    ∙ ap is_some none)

pub stranger-unheard : (t : Rows) (sight : Sight) (a : Arrival) (place : ℕ) → place_named t a.bytes ≡ Some place
    → is_heard_at t sight a.side (Some place) ≡ false → is_stranger t sight a ≡ true
unfolding is_stranger
stranger-unheard t sight a place named deaf =
    ap (λ v. not (goes_there t a) || not v) (ap (λ o. is_heard_at t sight a.side o) named ∙ deaf)
    ∙ or-true (not (goes_there t a))

-- one of a stream is heard
pub stream-heard : (t : Rows) (sight : Sight) (a : Arrival) (place : ℕ) (l : LinkRow) → is_stranger t sight a ≡ false
    → place_named t a.bytes ≡ Some place → slice_get t.links place ≡ Some l → is_heard t sight a.side l ≡ true
unfolding is_stranger
stream-heard t sight a place l none named at =
    sym (heard-at t sight a.side place l at) ∙ ap (λ o. is_heard_at t sight a.side o) (sym named)
    ∙ by (goes_there t a) (is_heard_at t sight a.side (place_named t a.bytes)) none
  where
    by : (g h : Bool) → (not g || not h) ≡ false → h ≡ true
    by true true e = refl
    by true false e = absurd (true≢false e)
    by false h e = absurd (true≢false e)

-- ---- a frame that is passed over

pub unheard-came : (t : Rows) (sight : Sight) (x : Frame) → is_of_came x.role ≡ true → is_unheard t sight x ≡ false
unfolding is_unheard
unheard-came t sight x came =
    ap (λ r. not r && not (is_heard_at t sight x.arrival.side (place_named t x.arrival.bytes))
    && goes_there t x.arrival && not (is_damaged x.arrival.bytes)) came

pub unheard-is : (t : Rows) (sight : Sight) (x : Frame) (heard goes damaged : Bool) → x.role ≡ Left
    → is_heard_at t sight x.arrival.side (place_named t x.arrival.bytes) ≡ heard
    → goes_there t x.arrival ≡ goes → is_damaged x.arrival.bytes ≡ damaged
    → is_unheard t sight x ≡ (not heard && goes && not damaged)
unfolding is_unheard
unheard-is t sight x heard goes damaged left h g d =
    ap (λ r. not (is_of_came r) && not (is_heard_at t sight x.arrival.side (place_named t x.arrival.bytes))
    && goes_there t x.arrival && not (is_damaged x.arrival.bytes)) left
    ∙ ap (λ v. not v && goes_there t x.arrival && not (is_damaged x.arrival.bytes)) h
    ∙ ap (λ v. not heard && v && not (is_damaged x.arrival.bytes)) g ∙ ap (λ v. not heard && goes && not v) d

-- it is where its sender's port is recorded
pub heard-counts : (t : Rows) (sight : Sight) (x : Frame)
    → is_heard_at t sight x.arrival.side (place_named t x.arrival.bytes) ≡ true
    → is_unheard t sight x ≡ false
unfolding is_unheard
heard-counts t sight x heard =
    ap (λ v. not (is_of_came x.role) && not v && goes_there t x.arrival && not (is_damaged x.arrival.bytes)) heard
    ∙ by (not (is_of_came x.role)) (goes_there t x.arrival) (not (is_damaged x.arrival.bytes))
  where
    by : (a b c : Bool) → (a && false && b && c) ≡ false
    by true b c = refl
    by false b c = refl
