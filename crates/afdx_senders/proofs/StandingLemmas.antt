-- What is awaited of the sources, once a frame came to one of them.
use Rattle.std.proofs.Common.{◌∷◌, true≢false, length, drop, [], ◌≡◌, ℕ, List, Bool, true, false, refl, sym, ap, ◌∙◌, subst, inl, inr}
use Rattle.std.proofs.lemmas.Bool.{eq-eqb, eqb-true}
use Rattle.std.proofs.lemmas.List.Sorted.{Contains-permutation}
use Rattle.std.proofs.lemmas.Map.Made.{Contains-tail}
use Rattle.std.specs.List.Sorted.{IsPermutation}
use Rattle.std.specs.List.{Contains}
use Rattle.std.specs.Prelude.{nat_eq, if◌then◌else◌, Option, Some, None, ◌⊎◌, Result, Ok, Err, OnOk}
use Rattle.afdx_lawful.specs.Courses.{AllTold, Course, Unpaired, over, waited_of, waited_on, at_first, next_told, oldest, sooner, still_waiting}
use Rattle.afdx_lawful.specs.Judged.{waiting_of}
use Rattle.afdx_lawful.specs.Partners.{waiting}
use Rattle.afdx_frame.specs.declared.link.Side.{Side}
use Rattle.afdx_frame.specs.declared.link.Side.TheVariants.{A, B}
use Rattle.std.proofs.Math.Seq.{drop-length}
use Rattle.std.proofs.lemmas.List.{length-map}
use Rattle.afdx_lawful.specs.Sources.{Source}
use Rattle.afdx_senders.specs.Awaited.{AwaitsToo, awaited}
use Rattle.afdx_senders.specs.Followed.{due_of, AreFollowed, ByPlace, Followed, MayCome, came_next, due_at, put_at}
use Rattle.afdx_senders.specs.Lines.{MayComeThere, came_there}
use Rattle.afdx_senders.specs.declared.agenda.DueSource.{DueSource}
use Rattle.afdx_senders.specs.declared.followed.FollowedSources.{FollowedSources}
use Rattle.afdx_senders.specs.declared.site_frame.SiteFrame.{SiteFrame}

pub on_ok : {X E : Type 0} {P Q : Type 0} → (P → Q) → (r : Result X E) → OnOk r P → OnOk r Q
on_ok f (Ok x) p = f p
on_ok f (Err e) p = tt

-- what is due of each source is awaited
abbrev pub AllAwaited : ByPlace → List DueSource → Type 0
AllAwaited at agenda = (place m : ℕ) → due_at (at place) ≡ Some m → Contains agenda (awaited m place)

-- but that of the source at a place
abbrev pub AwaitedBut : ℕ → ByPlace → List DueSource → Type 0
AwaitedBut but at agenda = (place m : ℕ) → nat_eq place but ≡ false → due_at (at place) ≡ Some m →
    Contains agenda (awaited m place)

module _ (at next : ByPlace) (place : ℕ) (before after : Option ℕ) (old new : List DueSource)
    (others : (k : ℕ) → nat_eq k place ≡ false → next k ≡ at k)
    (held : (m : ℕ) → before ≡ Some m → Contains old (awaited m place))
    (is : after ≡ due_at (next place)) (too : AwaitsToo place before after old new)
    (all : AwaitedBut place at old) where
  here : (m : ℕ) → due_at (next place) ≡ Some m → Contains new (awaited m place)
  here m due = by (too.due m (is ∙ due))
    where
      by : (before ≡ Some m) ⊎ Contains new (awaited m place) → Contains new (awaited m place)
      by (inl same) = too.kept (awaited m place) (held m same)
      by (inr there) = there

  pub awaited_next : AllAwaited next new
  awaited_next k m due = by (nat_eq k place) refl
    where
      by : (b : Bool) → nat_eq k place ≡ b → Contains new (awaited m k)
      by true same =
          let e = eqb-true k place same in
          subst (λ n. Contains new (awaited m n)) (sym e)
          (here m (subst (λ n. due_at (next n) ≡ Some m) e due))
      by false other = too.kept (awaited m k) (all k m other (ap due_at (sym (others k other)) ∙ due))

module _ (at : ByPlace) (x : SiteFrame) (place : ℕ) where
  pub came_others : (o : Option Followed) (k : ℕ) → nat_eq k place ≡ false → came_there at x place o k ≡ at k
  came_others None k other = refl
  came_others (Some f) k other = ap (λ (b : Bool). if b then Some (came_next f x) else at k) other

  -- the sources that are followed then
  pub came_followed : (o : Option Followed) (kept : FollowedSources) → MayComeThere x o →
      (o ≡ None → AreFollowed at kept)
      → ((f : Followed) → o ≡ Some f → MayCome f x.time → AreFollowed (put_at place (came_next f x) at) kept)
      → AreFollowed (came_there at x place o) kept
  came_followed None kept may none some = none refl
  came_followed (Some f) kept may none some = some f refl may

-- ---- one more source is judged

-- nothing is due of a source to which nothing came
pub none_first : (s : Source) → next_told s at_first ≡ None
unfolding still_waiting waiting
none_first s = by s.is_paired
  where
    by : (b : Bool) → sooner (oldest (if b then [] else [])) (oldest (if b then [] else [])) ≡ None
    by true = refl
    by false = refl

pub put_awaited : (at : ByPlace) (place : ℕ) (f : Followed) (agenda : List DueSource) → due_of f ≡ None →
    AllAwaited at agenda → AllAwaited (put_at place f at) agenda
put_awaited at place f agenda none all k m = by (nat_eq k place)
  where
    by : (b : Bool) → due_at (if b then Some f else at k) ≡ Some m → Contains agenda (awaited m k)
    by true due = let no : None ≡ Some m = sym none ∙ due in absurd (cc)
    by false due = all k m due

-- ---- a frame waited in vain

gone : (us : List Unpaired) → drop (length us) (waited_of us) ≡ []
gone us = ap (λ n. drop n (waited_of us)) (sym (length-map us (λ u. u.waited))) ∙ drop-length (waited_of us)

side_gone : (s : Source) (c : Course) (side : Side) → waiting_of s side c.came ≡ waited_on c side →
    oldest (still_waiting s c side) ≡ None
unfolding still_waiting
side_gone s c side all =
    ap (λ ys. oldest (drop (length (over c side)) ys)) all ∙ ap oldest (gone (over c side))

-- once all were told, none is next
pub none_next : (s : Source) (c : Course) → AllTold s c → next_told s c ≡ None
none_next s c all =
    ap (λ o. sooner o (oldest (still_waiting s c B))) (side_gone s c A (all A))
    ∙ ap (λ o. sooner None o) (side_gone s c B (all B))

pub put_others : (at : ByPlace) (place : ℕ) (f : Followed) (k : ℕ) → nat_eq k place ≡ false → put_at place f at k ≡ at k
put_others at place f k other = ap (λ (b : Bool). if b then Some f else at k) other

-- ---- one is taken off the agenda

module _ (at : ByPlace) (e : DueSource) (old rest : List DueSource) (moved : IsPermutation old (e ∷ rest))
    (all : AllAwaited at old) where
  still_awaited : (k m : ℕ) → (e ≡ awaited m k → ⊥) → due_at (at k) ≡ Some m → Contains rest (awaited m k)
  still_awaited k m other due =
      Contains-tail e rest (awaited m k) other (Contains-permutation old (e ∷ rest) (awaited m k) moved (all k m due))

  -- another time is due there
  pub stale_awaited : (due_at (at e.place) ≡ Some e.moment → ⊥) → AllAwaited at rest
  stale_awaited stale k m due =
      still_awaited k m (λ is. stale (subst (λ (x : DueSource). due_at (at x.place) ≡ Some x.moment) (sym is) due)) due

  -- all others still are
  pub others_awaited : AwaitedBut e.place at rest
  others_awaited k m other due =
      still_awaited k m
      (λ is. true≢false (sym (eq-eqb k e.place (ap (λ (x : DueSource). x.place) (sym is))) ∙ other)) due
