-- What one switch accepted of a link is accepted by the next.
use Rattle.std.proofs.Common.{rules, ◌≡◌, ℕ, ◌==◌, ◌&&◌, true, List, [], ◌∷◌, ◌++◌}
use Rattle.std.proofs.Common.{map, refl, sym, ap, ◌∙◌, subst, inl, inr}
use Rattle.std.specs.Prelude.{Option, Some, None, is_none, if◌then◌else◌}
use Rattle.std.proofs.lemmas.Bool.{eq-eqb, eqb-true}
use Rattle.std.proofs.lemmas.List.Elements.{filter-append}
use Rattle.afdx_frame.specs.Regulation.{wire_of}
use Rattle.afdx_frame.specs.declared.link.Side.{Side}
use Rattle.afdx_police.specs.Arrival.{Arrival, is_side, names, own}
use Rattle.afdx_police.specs.Delayed.{HasRoom, IsDelayed, AreDelayed}
use Rattle.afdx_police.specs.Rule.{Rule, regulation_of}
use Rattle.afdx_police.specs.Shape.{IsSound}
use Rattle.afdx_police.specs.Verdicts.{accepted_arrivals, accepted_own, charged_by, reason_after}
use Rattle.afdx_police.specs.Window.{fits}
use Rattle.afdx_police.specs.declared.shape.Reason.{Reason}
use Rattle.afdx_police.proofs.DelayLemmas.{delayed-fits}
use Rattle.afdx_police.proofs.ShapeLemmas.{faultless-is-sound}
use Rattle.afdx_police.proofs.VerdictLemmas.{verdict_decides}
use Rattle.afdx_switch.specs.Hops.{IsNextRule, IsCopy, AreCopies, AreFirstCopies}
use Rattle.afdx_switch.specs.Hops.{CopiesAreAccepted, NoCopyIsDropped}
use Rattle.afdx_switch.specs.Regular.{at_port}
use Rattle.afdx_switch.specs.Tables.{rule_of}
use Rattle.afdx_switch.proofs.AdmittedLemmas.{link-reason}
use Rattle.afdx_switch.proofs.ArrivalLemmas.{own-named}
use Rattle.afdx_switch.proofs.ListLemmas.{bool_cases}
use Rattle.afdx_switch.proofs.RegularLemmas.{at-own, at-other, AreAccepted, step-own, step-other}

-- ---- what a switch accepted is sound and fits

-- each of these is sound, and fits after those before it
abbrev pub AllPass : Rule → List Arrival → Type 0
AllPass rule [] = Unit {0}
AllPass rule (x ∷ past) =
    IsSound rule x.port x.bytes
    × (fits (regulation_of rule) (map (charged_by rule) past) (charged_by rule x) ≡ true)
    × AllPass rule past

record Passes (rule : Rule) (xs : List Arrival) : Type 0 where
  charged : accepted_own rule xs ≡ map (charged_by rule) (accepted_arrivals rule xs)
  pass : AllPass rule (accepted_arrivals rule xs)

passes : (rule : Rule) (xs : List Arrival) → Passes rule xs
unfolding accepted_own accepted_arrivals
passes rule [] = record { charged = refl; pass = tt }
passes rule (x ∷ past) = by (reason_after rule past x) refl (passes rule past)
  where
    by : (o : Option Reason) → reason_after rule past x ≡ o → Passes rule past → Passes rule (x ∷ past)
    by None none rest =
        let both = (verdict_decides rule past x).exactly.0 none in
        let all : accepted_arrivals rule (x ∷ past) ≡ x ∷ accepted_arrivals rule past =
        ap (λ (o : Option Reason). if is_none o then x ∷ accepted_arrivals rule past
        else accepted_arrivals rule past) none in
        record {
          charged = (verdict_decides rule past x).accepted none
              ∙ ap (λ zs. charged_by rule x ∷ zs) rest.charged ∙ ap (map (charged_by rule)) (sym all);
          pass = subst (AllPass rule) (sym all) (
            (faultless-is-sound rule x.port x.bytes).0 both.0,
            ap (λ zs. fits (regulation_of rule) zs (charged_by rule x)) (sym rest.charged) ∙ both.1,
            rest.pass,
          );
        }
    by (Some reason) some rest =
        let all : accepted_arrivals rule (x ∷ past) ≡ accepted_arrivals rule past =
        ap (λ (o : Option Reason). if is_none o then x ∷ accepted_arrivals rule past
        else accepted_arrivals rule past) some in
        record {
          charged = (verdict_decides rule past x).dropped reason some ∙ rest.charged
              ∙ ap (map (charged_by rule)) (sym all);
          pass = subst (AllPass rule) (sym all) rest.pass;
        }

pub accepted-pass : (rule : Rule) (xs : List Arrival) → AllPass rule (accepted_arrivals rule xs)
accepted-pass rule xs = (passes rule xs).pass

pub earlier-pass : (rule : Rule) (waiting gone : List Arrival) → AllPass rule (waiting ++ gone) → AllPass rule gone
earlier-pass rule [] gone pass = pass
earlier-pass rule (x ∷ waiting) gone pass = earlier-pass rule waiting gone pass.2

-- ---- copies

module _ (delay : ℕ) (before next : Rule) (is_next : IsNextRule delay before next) where
  room : HasRoom delay (regulation_of before) (regulation_of next)
  room = record {
    bag_ms = is_next.bag_ms;
    smax = ap wire_of is_next.lmax;
    jitter = is_next.jitter;
  }

  charge-same : (x y : Arrival) → y.bytes ≡ x.bytes → (charged_by next y).charge ≡ (charged_by before x).charge
  charge-same x y same = rw (is_next.policing, is_next.lmax, same) refl

  charged-later : (x y : Arrival) → IsCopy delay x y → IsDelayed delay (charged_by before x) (charged_by next y)
  charged-later x y copy = record {
    charge = charge-same x y copy.bytes;
    after = copy.after;
    within = copy.within;
  }

  all-later : (xs ys : List Arrival) → AreCopies delay xs ys
      → AreDelayed delay (map (charged_by before) xs) (map (charged_by next) ys)
  all-later [] [] are = tt
  all-later [] (y ∷ ys) are = absurd are
  all-later (x ∷ xs) [] are = absurd are
  all-later (x ∷ xs) (y ∷ ys) are = (charged-later x y are.0, all-later xs ys are.1)

  still-sound : (x y : Arrival) → y.bytes ≡ x.bytes → next.port ≡ y.port
      → IsSound before x.port x.bytes → IsSound next y.port y.bytes
  still-sound x y same port sound =
      rw (same, is_next.vl, is_next.lmax, is_next.lmin, is_next.policing) (search (rules, sound, port))

  -- one that comes at the port, after those before it
  copy-reason : (g x : Arrival) (gone past : List Arrival) → IsCopy delay g x
      → AreCopies delay gone (at_port next past) → AllPass before (g ∷ gone) → next.port ≡ x.port
      → AreAccepted next past → reason_after next past x ≡ None
  copy-reason g x gone past copy are pass port so_far =
      (verdict_decides next past x).exactly.1 (
        (faultless-is-sound next x.port x.bytes).1 (still-sound g x copy.bytes port pass.0),
        ap (λ zs. fits (regulation_of next) zs (charged_by next x)) so_far.charged
            ∙ delayed-fits delay (regulation_of before) (regulation_of next) room
            (map (charged_by before) gone) (map (charged_by next) (at_port next past))
            (charged_by before g) (charged_by next x)
            (all-later gone (at_port next past) are) (charged-later g x copy) pass.1,
      )

  pub copies-pass : (gone own : List Arrival) → AreCopies delay gone (at_port next own)
      → AllPass before gone → AreAccepted next own
  unfolding accepted_own accepted_arrivals
  copies-pass gone [] are pass = record { charged = refl; arrivals = refl }
  copies-pass gone (x ∷ past) are pass = elim (bool_cases (next.port == x.port)) [
    | inl here ↦ at-the-port gone (subst (AreCopies delay gone) (at-own next x past here) are) pass here
        (λ gs rest ps. copies-pass gs past rest ps)
    | inr other ↦ step-other next x past other
        (copies-pass gone past (subst (AreCopies delay gone) (at-other next x past other) are) pass)
  ]
    where
      at-the-port : (gs : List Arrival) → AreCopies delay gs (x ∷ at_port next past) → AllPass before gs
          → (next.port == x.port) ≡ true
          → ((hs : List Arrival) → AreCopies delay hs (at_port next past) → AllPass before hs → AreAccepted next past)
          → AreAccepted next (x ∷ past)
      at-the-port [] ar ps here rest = absurd ar
      at-the-port (g ∷ gs) ar ps here rest =
          let so_far = rest gs ar.1 ps.2 in
          step-own next x past here
          (copy-reason g x gs past ar.0 ar.1 ps (eqb-true next.port x.port here) so_far) so_far

pub first-pass : (delay : ℕ) (before next : Rule) (came own : List Arrival) → IsNextRule delay before next
    → AreFirstCopies delay (accepted_arrivals before came) (at_port next own) → AreAccepted next own
first-pass delay before next came own is_next first =
    copies-pass delay before next is_next first.gone own first.copies
    (earlier-pass before first.waiting first.gone
    (subst (AllPass before) first.all (accepted-pass before came)))

pub copies-accepted : CopiesAreAccepted
copies-accepted delay before next came own is_next first =
    (first-pass delay before next came own is_next first).arrivals

-- ---- the same by tables

-- those that came by some moment
pub copies-from : (delay : ℕ) (gone later past : List Arrival) → AreCopies delay gone (later ++ past)
    → (after : List Arrival) × (before : List Arrival) × (gone ≡ after ++ before) × AreCopies delay before past
copies-from delay gone [] past are = ([], gone, refl, are)
copies-from delay [] (y ∷ later) past are = absurd are
copies-from delay (g ∷ gone) (y ∷ later) past are =
    let rest = copies-from delay gone later past are.1 in
    (g ∷ rest.0, rest.1, ap (λ zs. g ∷ zs) rest.2, rest.3)

append-more : (xs ys zs : List Arrival) → xs ++ (ys ++ zs) ≡ (xs ++ ys) ++ zs
append-more [] ys zs = refl
append-more (x ∷ xs) ys zs = ap (λ ws. x ∷ ws) (append-more xs ys zs)

pub first-from : (delay : ℕ) (accepted later past : List Arrival) → AreFirstCopies delay accepted (later ++ past)
    → AreFirstCopies delay accepted past
first-from delay accepted later past first =
    let rest = copies-from delay first.gone later past first.copies in
    record {
      waiting = first.waiting ++ rest.0;
      gone = rest.1;
      all = first.all ∙ ap (λ zs. first.waiting ++ zs) rest.2 ∙ append-more first.waiting rest.0 rest.1;
      copies = rest.3;
    }

at-port-more : (rule : Rule) (vl : ℕ) (side : Side) (later past : List Arrival)
    → at_port rule (own vl side (later ++ past))
    ≡ at_port rule (own vl side later) ++ at_port rule (own vl side past)
at-port-more rule vl side later past =
    ap (at_port rule) (filter-append (λ x. is_side side x.side && names vl x.bytes) later past)
    ∙ filter-append (λ x. rule.port == x.port) (own vl side later) (own vl side past)

pub none-dropped : NoCopyIsDropped
none-dropped delay before came t place l later past x lawful at is_next first named port =
    let rule = rule_of t l in
    let so_far : AreFirstCopies delay (accepted_arrivals before came) (at_port rule (own l.vl x.side (x ∷ past))) =
    first-from delay (accepted_arrivals before came) (at_port rule (own l.vl x.side later))
    (at_port rule (own l.vl x.side (x ∷ past)))
    (subst (AreFirstCopies delay (accepted_arrivals before came))
    (at-port-more rule l.vl x.side later (x ∷ past)) first) in
    let here : at_port rule (own l.vl x.side (x ∷ past)) ≡ x ∷ at_port rule (own l.vl x.side past) =
    ap (at_port rule) (own-named l.vl x past named)
    ∙ at-own rule x (own l.vl x.side past) (eq-eqb rule.port x.port port) in
    link-reason t past x place l lawful at named
    ∙ by so_far.gone (subst (AreCopies delay so_far.gone) here so_far.copies)
    (earlier-pass before so_far.waiting so_far.gone
    (subst (AllPass before) so_far.all (accepted-pass before came)))
  where
    by : (gone : List Arrival) → AreCopies delay gone (x ∷ at_port (rule_of t l) (own l.vl x.side past))
        → AllPass before gone → reason_after (rule_of t l) (own l.vl x.side past) x ≡ None
    by [] are pass = absurd are
    by (g ∷ gs) are pass =
        copy-reason delay before (rule_of t l) is_next g x gs (own l.vl x.side past) are.0 are.1 pass port
        (copies-pass delay before (rule_of t l) is_next gs (own l.vl x.side past) are.1 pass.2)
