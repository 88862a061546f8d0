-- What is known of each frame of a source of which nothing is found, by its place.
use Rattle.std.proofs.Common.{◌≡◌, ◌⊎◌, inl, inr, ℕ, ◌≤◌, Bool, true, false, List, []}
use Rattle.std.proofs.Common.{◌∷◌, refl, sym, ap, ◌∙◌, subst, length, Option, Some, None}
use Rattle.std.specs.Prelude.{◌==◌, if◌then◌else◌, not, nat_lt, Result, Ok, Err}
use Rattle.std.specs.List.{AllByRecursion}
use Rattle.std.specs.Option.{option_map_or, option_or}
use Rattle.std.specs.Str.{bytes_eq}
use Rattle.std.proofs.lemmas.Bool.{eqb-true, ltb-false}
use Rattle.std.proofs.lemmas.Slice.Eq.{bytes_eq-Decides}
use Rattle.afdx_frame.specs.Carried.{carried_by}
use Rattle.afdx_frame.specs.Layout.{link_named_by}
use Rattle.afdx_frame.specs.Parts.{FrameParts, frame_of}
use Rattle.afdx_frame.specs.Sides.{is_side}
use Rattle.afdx_frame.specs.declared.fault.MacFault.{MacFault}
use Rattle.afdx_frame.specs.declared.link.Side.{Side}
use Rattle.afdx_frame.specs.declared.link.VlId.{VlId}
use Rattle.afdx_frame.proofs.SideLemmas.{is_side-same}
use Rattle.afdx_config.specs.Numbers.{after_steps}
use Rattle.afdx_police.specs.Arrival.{names}
use Rattle.afdx_lawful.specs.Accepted.{AreNamed}
use Rattle.afdx_lawful.specs.Alone.{number_in}
use Rattle.afdx_lawful.specs.Flaws.{address_in, address_of, flaw_carrying, flaw_in, flaw_of}
use Rattle.afdx_lawful.specs.Sources.{Came, Source, on_side}
use Rattle.afdx_lawful.specs.declared.finding.Flaw.{Flaw}
use Rattle.afdx_lawful.specs.declared.finding.Flaw.TheVariants.{NotItsAddress, OverLmax, UnderLmin}
use Rattle.afdx_lawful.proofs.CleanLemmas.{AreClean}
use Rattle.afdx_law_recorded.specs.Pairs.{AreNumberedByPlace}
use Rattle.afdx_law_recorded.proofs.PlaceLemmas.{IsNewest, IsOlder}
use Rattle.afdx_law_recorded.proofs.PlaceLemmas.{stands-cases, stands_at}

same_some : {X : Type 0} {x y : X} → Some x ≡ Some y → x ≡ y
same_some h = cc

-- ---- what is known of each frame of a side

pub on-at : (P : Came → Type 0) (side : Side) (xs : List Came) → AllByRecursion P xs → (k : ℕ) (y : Came) →
    stands_at (on_side side xs) k ≡ Some y → P y × (y.side ≡ side)
unfolding stands_at
on-at P side [] h k y e = absurd (cc e)
on-at P side (x ∷ past) h k y e =
    by (is_side side x.side) refl e (λ f. on-at P side past h.1 k y f)
  where
    by : (b : Bool) → is_side side x.side ≡ b →
        stands_at (if b then x ∷ on_side side past else on_side side past) k ≡ Some y →
        (stands_at (on_side side past) k ≡ Some y → P y × (y.side ≡ side)) → P y × (y.side ≡ side)
    by true s f more = which (stands-cases x (on_side side past) k y f)
      where
        which : IsNewest x (on_side side past) k y ⊎ IsOlder (on_side side past) k y → P y × (y.side ≡ side)
        which (inl newest) =
            subst (λ (z : Came). P z × (z.side ≡ side)) newest.same (h.0, sym (is_side-same side x.side s))
        which (inr older) = more older.stands
    by false s f more = more f

pub all-named : (s : Source) (xs : List Came) → AreNamed s xs → AllByRecursion (λ x. names s.rule.vl x.bytes ≡ true) xs
all-named s [] h = tt
all-named s (x ∷ past) h = (h.0, all-named s past h.1)

pub all-flawless : (s : Source) (xs : List Came) → AreClean s xs → AllByRecursion (λ x. flaw_of s x ≡ None) xs
unfolding AreClean
all-flawless s [] h = tt
all-flawless s (x ∷ past) h = (h.0.flawless, all-flawless s past h.1)

pub numbered-at : (ys : List Came) (k : ℕ) (y : Came) → AreNumberedByPlace ys → stands_at ys k ≡ Some y →
    number_in y ≡ after_steps k 0
unfolding stands_at
numbered-at [] k y h e = absurd (cc e)
numbered-at (x ∷ past) k y h e = by (stands-cases x past k y e) (λ f. numbered-at past k y h.1 f)
  where
    by : IsNewest x past k y ⊎ IsOlder past k y → (stands_at past k ≡ Some y → number_in y ≡ after_steps k 0) →
        number_in y ≡ after_steps k 0
    by (inl newest) more =
        ap number_in (sym newest.same) ∙ h.0 ∙ ap (λ n. after_steps n 0) (sym newest.last)
    by (inr older) more = more older.stands

-- ---- a frame without a flaw

pub record IsFlawless (s : Source) (x : Came) : Type 0 where
  pub frame : FrameParts
  pub framed : frame_of x.bytes ≡ Ok frame
  pub least : s.rule.lmin ≤ length x.bytes
  pub most : length x.bytes ≤ s.rule.lmax
  pub address : address_in x.bytes ≡ address_of s.system x.side

no-tests : (a b c : Bool) (carried : Option Flaw) →
    option_or (if a then Some OverLmax else (if b then Some UnderLmin else
    (if not c then Some NotItsAddress else None))) carried ≡ None → (a ≡ false) × (b ≡ false) × (c ≡ true)
no-tests true b c carried h = absurd (cc h)
no-tests false true c carried h = absurd (cc h)
no-tests false false true carried h = (refl, refl, refl)
no-tests false false false carried h = absurd (cc h)

flawless-by : (s : Source) (x : Came) (r : Result FrameParts MacFault) → frame_of x.bytes ≡ r → flaw_in s x r ≡ None →
    IsFlawless s x
flawless-by s x (Err fault) e h = absurd (cc h)
flawless-by s x (Ok p) e h =
    let all = no-tests (nat_lt s.rule.lmax (length x.bytes)) (nat_lt (length x.bytes) s.rule.lmin)
    (bytes_eq (address_in x.bytes) (address_of s.system x.side)) (flaw_carrying (carried_by x.bytes)) h in
    record {
      frame = p;
      framed = e;
      least = ltb-false _ _ all.1;
      most = ltb-false _ _ all.0;
      address = (bytes_eq-Decides (address_in x.bytes) (address_of s.system x.side)).0 all.2;
    }

pub flawless : (s : Source) (x : Came) → flaw_of s x ≡ None → IsFlawless s x
unfolding flaw_of
flawless s x h = flawless-by s x (frame_of x.bytes) refl h

pub link-of : (bytes : List ℕ) (p : FrameParts) (vl : ℕ) → link_named_by bytes ≡ Some p.link → names vl bytes ≡ true →
    p.link.0 ≡ vl
unfolding names
link-of bytes p vl h e = eqb-true p.link.0 vl (of (link_named_by bytes) h e)
  where
    of : (o : Option VlId) → o ≡ Some p.link → option_map_or (λ named. named.0 == vl) o false ≡ true →
        (p.link.0 == vl) ≡ true
    of None h e = absurd (cc h)
    of (Some v) h e = ap (λ w. w.0 == vl) (sym (same_some h)) ∙ e
