-- What the links took by the events of a run that sends.
use Rattle.std.proofs.Common.{◌≡◌, ℕ, zero, suc, ◌==◌, Bool, true, false, if◌then◌else◌, List, []}
use Rattle.std.proofs.Common.{◌∷◌, ◌++◌, map, Some, None, refl, sym, ap, subst, ◌∙◌, arith}
use Rattle.std.proofs.Common.{slice_index_or}
use Rattle.std.specs.List.{slice_get, AllByRecursion}
use Rattle.std.proofs.lemmas.Bool.Decides.{nat_tests}
use Rattle.afdx_config.specs.Lawful.{AreDistinct}
use Rattle.afdx_config.specs.Rows.{SystemRow, LinkRow}
use Rattle.afdx_send.specs.Complete.{IsFor}
use Rattle.afdx_send.specs.Releases.{Submission}
use Rattle.afdx_send.specs.Sender.{IsTaken}
use Rattle.afdx_input_sources.specs.Listed.{Handed}
use Rattle.afdx_command_tables.specs.sending.Events.{message_of, Event, Emitted, Submitted}
use Rattle.afdx_command_tables.specs.sending.Events.{submissions_in, taken_by, calls_in, EachFollows}

pub all-more : {Y : Type 0} (P : Y → Type 0) (xs : List Y) (x : Y) → AllByRecursion P xs → P x
    → AllByRecursion P (xs ++ x ∷ [])
all-more P [] x all p = (p, tt)
all-more P (y ∷ ys) x all p = (all.0, all-more P ys x all.1 p)

pub same_get : {Y : Type 0} (xs : List Y) (i : ℕ) (a b : Y) → slice_get xs i ≡ Some a → slice_get xs i ≡ Some b → a ≡ b
same_get xs i a b h k = let e : Some a ≡ Some b = sym h ∙ k in cc e

nat_eq-true : (a b : ℕ) → (a == b) ≡ true → a ≡ b
nat_eq-true a b h = grind (arith, nat_tests, h)

pub same-place : (links : List LinkRow) → AreDistinct (λ l. l.vl) links → (i j : ℕ) (a b : LinkRow)
    → slice_get links i ≡ Some a → slice_get links j ≡ Some b → a.vl ≡ b.vl → i ≡ j
unfolding AreDistinct
same-place links distinct i j a b h k e = distinct i j a b h k e

pub same-row : (links : List LinkRow) → AreDistinct (λ l. l.vl) links → (i j : ℕ) (a b : LinkRow)
    → slice_get links i ≡ Some a → slice_get links j ≡ Some b → a.vl ≡ b.vl → a ≡ b
same-row links distinct i j a b h k e =
    (let at : i ≡ j = same-place links distinct i j a b h k e in
    same_get links j a b (subst (λ (z : ℕ). slice_get links z ≡ Some a) at h) k)

-- what is true of each message of the list that a link can take is true of all that it took
pub taken-each : (P : LinkRow → Submission → Type 0) (Q : Handed → Type 0)
    → ((l : LinkRow) (x : Handed) → IsFor l (message_of x.submission) → Q x
    → P l (message_of x.submission)) →
    (s : SystemRow) (links : List LinkRow) → AreDistinct (λ l. l.vl) links → (events : List Event)
    → EachFollows s links events → AllByRecursion Q (submissions_in events) →
    (i : ℕ) (l : LinkRow) → slice_get links i ≡ Some l → AllByRecursion (P l) (taken_by l.vl events)
taken-each P Q f s links distinct [] follow said i l at = tt
taken-each P Q f s links distinct (Emitted turn ∷ before) follow said i l at =
    taken-each P Q f s links distinct before follow.1 said i l at
taken-each P Q f s links distinct (Submitted x (Some fault) ∷ before) follow said i l at =
    taken-each P Q f s links distinct before follow.1 said.1 i l at
taken-each P Q f s links distinct (Submitted x None ∷ before) follow said i l at =
    by (x.submission.vl == l.vl) refl (taken-each P Q f s links distinct before follow.1 said.1 i l at)
  where
    good : (place : ℕ) → IsTaken (calls_in s links before x.submission.time) place x.submission.vl
        (message_of x.submission) → x.submission.vl ≡ l.vl → P l (message_of x.submission)
    good place k e =
        let row : k.row ≡ l = same-row links distinct place i k.row l k.link.0 at (k.link.1 ∙ e) in
        f l x (subst (λ (z : LinkRow). IsFor z (message_of x.submission)) row
        (record { sub = k.sub; some = k.some; fits = k.fits })) said.0

    by : (b : Bool) → (x.submission.vl == l.vl) ≡ b → AllByRecursion (P l) (taken_by l.vl before) →
        AllByRecursion (P l) (if b then taken_by l.vl before ++ message_of x.submission ∷ [] else taken_by l.vl before)
    by true e rest = all-more (P l) (taken_by l.vl before) (message_of x.submission) rest
        (good follow.0.answered.0 follow.0.answered.1 (nat_eq-true x.submission.vl l.vl e))
    by false e rest = rest

pub own-taken : (f : ℕ → List Submission) (links : List LinkRow) (i : ℕ) (l : LinkRow)
    → slice_get links i ≡ Some l → slice_index_or (map (λ l. f l.vl) links) i [] ≡ f l.vl
own-taken f [] i l at = absurd (cc at)
own-taken f (x ∷ links) zero l at = (let e : x ≡ l = cc at in ap (λ z. f z.vl) e)
own-taken f (x ∷ links) (suc i) l at = own-taken f links i l at
