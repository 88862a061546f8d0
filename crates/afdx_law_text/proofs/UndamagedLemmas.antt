-- What left as it is promised is undamaged.
use Rattle.std.proofs.Common.{◌≡◌, ℕ, ◌≤◌, Bool, true, false, not, ◌||◌, List, [], ◌∷◌, map, ◌&&◌, ◌==◌, refl, sym, ap, ◌∙◌, subst, arith, true≢false}
use Rattle.std.proofs.lemmas.Bool.{eq-eqb, ltb-true}
use Rattle.std.specs.Prelude.{IsTrue, Some, None, filter, is_none, is_some, length, nat_lt, if◌then◌else◌}
use Rattle.std.specs.List.{AllByRecursion}
use Rattle.afdx_frame.specs.Layout.{link_named_by}
use Rattle.afdx_frame.specs.Lengths.{least_frame, greatest_frame}
use Rattle.afdx_frame.specs.Sealing.{is_sealed}
use Rattle.afdx_frame.specs.Sides.{is_side}
use Rattle.afdx_frame.specs.declared.link.Side.{Side}
use Rattle.afdx_frame.specs.declared.link.Side.TheVariants.{A, B}
use Rattle.afdx_config.specs.Lawful.{IsLawfulSwitch}
use Rattle.afdx_config.specs.Rows.{LinkRow, Rows}
use Rattle.afdx_input_lines.specs.declared.role.Role.TheVariants.{Left}
use Rattle.afdx_input_runs.specs.Joining.{Frame}
use Rattle.afdx_police.specs.Arrival.{Arrival, names, own}
use Rattle.afdx_police.specs.Rule.{Rule}
use Rattle.afdx_police.specs.Shape.{IsSound, fault_of, first_of}
use Rattle.afdx_police.specs.declared.shape.Reason.TheVariants.{TooShort, TooLong, BadFcs, BadAddress, UnknownLink}
use Rattle.afdx_police.proofs.ShapeLemmas.{faultless-is-sound}
use Rattle.afdx_law_bounds.specs.Tables.{rule_of}
use Rattle.afdx_switch.specs.Admitted.{accepted_on, passing}
use Rattle.afdx_law_promises.specs.Lines.{Leaving, is_leaving}
use Rattle.afdx_conform.proofs.EveryLemmas.{every-map, every-on, every-unmap}
use Rattle.afdx_command_conform.specs.Choices.{Choices, counts, is_left_out, is_passed}
use Rattle.afdx_command_conform.specs.Frames.{is_stranger}
use Rattle.afdx_command_conform.specs.Tapped.{is_damage, is_damaged, is_heard_at, link_to, place_named}
use Rattle.afdx_command_conform.proofs.FullLemmas.{out-of-choice}
use Rattle.afdx_command_conform.proofs.StrangerLemmas.{goes-named, stranger-no, unheard-is}
use Rattle.afdx_law_text.specs.Leaving.{LeaveAsPromised, LeavesAsPromised}
use Rattle.afdx_law_text.proofs.PromisedLemmas.{port-here}
use Rattle.afdx_law_text.proofs.TimeLemmas.{accepted-shape}

-- ---- what a rule accepts

not-less : (a b : ℕ) → b ≤ a → nat_lt a b ≡ false
not-less a b le = by (nat_lt a b) refl
  where
    by : (v : Bool) → nat_lt a b ≡ v → v ≡ false
    by true e = absurd (let lt = ltb-true a b e in omega (arith, lt, le))
    by false e = refl

not-true : (b : Bool) → IsTrue b → not b ≡ false
not-true true is = refl
not-true false is = absurd (true≢false (sym is))

undamaged-by : (a b c d : Bool) → a ≡ false → b ≡ false → c ≡ false
    → is_damage (first_of ((a, TooShort) ∷ (b, TooLong) ∷ (c, BadFcs) ∷ (d, BadAddress) ∷ (true, UnknownLink) ∷ []))
    ≡ false
undamaged-by true b c d p q r = absurd (true≢false p)
undamaged-by false true c d p q r = absurd (true≢false q)
undamaged-by false false true d p q r = absurd (true≢false r)
undamaged-by false false false true p q r = refl
undamaged-by false false false false p q r = refl

sound-undamaged : (rule : Rule) (port : ℕ) (bytes : List ℕ) → fault_of (Some rule) port bytes ≡ None
    → is_damaged bytes ≡ false
unfolding fault_of is_damaged
sound-undamaged rule port bytes none =
    let sound : IsSound rule port bytes = (faultless-is-sound rule port bytes).0 none in
    undamaged-by (nat_lt (length bytes) least_frame) (nat_lt greatest_frame (length bytes)) (not (is_sealed bytes))
    (is_none (link_named_by bytes)) (not-less (length bytes) least_frame sound.shortest)
    (not-less greatest_frame (length bytes) sound.longest) (not-true (is_sealed bytes) sound.sealed)

-- ---- what left

-- of each element those that pass a test that it passes have it
from-filters : {X : Type 0} (P : X → Type 0) (xs : List X)
    → AllByRecursion (λ x. (p : X → Bool) × (p x ≡ true) × AllByRecursion P (filter p xs)) xs → AllByRecursion P xs
from-filters P [] all = tt
from-filters {X} P (x ∷ xs) all = (
  first (filter all.0.0 xs) (all.0.0 x) all.0.1 all.0.2,
  from-filters P xs (every-on (λ y. (p : X → Bool) × (p y ≡ true) × AllByRecursion P (filter p (x ∷ xs)))
      (λ y. (p : X → Bool) × (p y ≡ true) × AllByRecursion P (filter p xs))
      (λ y h. (h.0, h.1, rest (filter h.0 xs) (h.0 x) h.2)) xs all.1),
)
  where
    first : (ys : List X) (b : Bool) → b ≡ true → AllByRecursion P (if b then x ∷ ys else ys) → P x
    first ys true is h = h.0
    first ys false is h = absurd (true≢false (sym is))

    rest : (ys : List X) (b : Bool) → AllByRecursion P (if b then x ∷ ys else ys) → AllByRecursion P ys
    rest ys true h = h.1
    rest ys false h = h

side-own : (side : Side) → is_side side side ≡ true
side-own A = refl
side-own B = refl

port-own : (n : ℕ) → (n == n) ≡ true
port-own n = eq-eqb n n refl

module _ (t : Rows) (lawful : IsLawfulSwitch t) (arrivals : List Arrival) (left : List Leaving)
    (promised : LeaveAsPromised t arrivals left) where
  undamaged-there : (d : Leaving) → LeavesAsPromised t d
      → (p : Leaving → Bool) × (p d ≡ true) × AllByRecursion (λ e. is_damaged e.frame.bytes ≡ false) (filter p left)
  undamaged-there d at =
      let here = port-here t at.link d.port lawful at.goes in (
        is_leaving at.link.vl d.side d.port,
        ap (λ b. (b && (d.port == d.port)) && names at.link.vl d.frame.bytes) (side-own d.side)
            ∙ ap (λ b. b && names at.link.vl d.frame.bytes) (port-own d.port) ∙ at.named,
        every-unmap (λ f. is_damaged f.bytes ≡ false) (λ (e : Leaving). e.frame)
            (filter (is_leaving at.link.vl d.side d.port) left)
            (subst (AllByRecursion (λ f. is_damaged f.bytes ≡ false))
            (sym (promised.frames d.side d.port at.place at.link here.low here.high at.stands
            ∙ ap (λ b. if b then map passing (accepted_on t at.link d.side arrivals) else []) at.goes))
            (every-map (λ f. is_damaged f.bytes ≡ false) passing (accepted_on t at.link d.side arrivals)
            (every-on (λ (x : Arrival). fault_of (Some (rule_of t at.link)) x.port x.bytes ≡ None)
            (λ x. is_damaged x.bytes ≡ false) (λ x none. sound-undamaged (rule_of t at.link) x.port x.bytes none)
            (accepted_on t at.link d.side arrivals)
            (accepted-shape (rule_of t at.link) (own at.link.vl d.side arrivals))))),
      )

  pub all-undamaged : AllByRecursion (λ d. is_damaged d.frame.bytes ≡ false) left
  all-undamaged = from-filters (λ d. is_damaged d.frame.bytes ≡ false) left
      (every-on (LeavesAsPromised t) (λ d. (p : Leaving → Bool) × (p d ≡ true)
      × AllByRecursion (λ e. is_damaged e.frame.bytes ≡ false) (filter p left)) undamaged-there left promised.each)

-- ---- none that counts is of no stream

or-true : (b : Bool) → (b || true) ≡ true
or-true true = refl
or-true false = refl

pub counted-none : (t : Rows) (c : Choices) (y : Arrival) (place : ℕ) (l : LinkRow) → place_named t y.bytes ≡ Some place
    → link_to t place y.port ≡ Some l → is_damaged y.bytes ≡ false → counts t c (record { role = Left; arrival = y })
    ≡ true
    → is_stranger t c.sight y ≡ false
counted-none t c y place l named to whole counted = by (is_heard_at t c.sight y.side (Some place)) refl
  where
    by : (h : Bool) → is_heard_at t c.sight y.side (Some place) ≡ h → is_stranger t c.sight y ≡ false
    by true e = stranger-no t c.sight y place l named to e
    by false e =
        let x : Frame = record { role = Left; arrival = y } in
        let passed : is_passed t c x ≡ true = ap (λ v. is_left_out c x || v)
        (unheard-is t c.sight x false true false refl
        (ap (λ o. is_heard_at t c.sight y.side o) named ∙ e) (goes-named t y (Some place) named ∙ ap is_some to) whole)
        ∙ or-true (is_left_out c x) in
        absurd (true≢false (sym counted ∙ out-of-choice t c x passed))
