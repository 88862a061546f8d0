-- The laws of the frames of two lists as one.
use Rattle.std.proofs.Common.{◌≡◌, ℕ, ◌≤◌, List, [], ◌∷◌, ◌++◌, reverse, append-nil, ap, sym, ◌∙◌, subst}
use Rattle.std.proofs.Common.{Option, Some, None}
use Rattle.std.proofs.lemmas.Bool.{ltb-false, ltb-true}
use Rattle.afdx_police.specs.Arrival.{Arrival}
use Rattle.afdx_input_lines.specs.Lines.{lines_of}
use Rattle.afdx_input_lines.specs.declared.fault.RunFault.{RunFault}
use Rattle.afdx_input_lines.specs.declared.role.Role.{Role}
use Rattle.afdx_input_lines.specs.declared.role.Role.TheVariants.{Came, Left}
use Rattle.afdx_input_sources.specs.Listed.{frames}
use Rattle.afdx_input_sources.specs.Lists.{latest_in}
use Rattle.afdx_input_sources.specs.Merging.{merge}
use Rattle.afdx_input_runs.specs.Arrivals.{DontGoBack}
use Rattle.afdx_input_runs.specs.Joining.{Coming, Frame, ListsTo, by_frame_time, first_of, frame_with, joined}
use Rattle.afdx_input_runs.specs.JoiningLaws.{AreInOrder, EachListIsTold, FramesAreInOrder, IsBehind, of_role}
use Rattle.afdx_input_runs.proofs.ArrivalsLemmas.{arrivals-ordered}
use Rattle.afdx_input_sources.proofs.CameLemmas.{reverse-taken}
use Rattle.afdx_input_sources.proofs.MergeLemmas.{IsNext, IsSooner, IsTrueOf, merge-keeps}

-- ---- each list is told

-- of these that come of both all but what is left came
record AreTold (came left : List Arrival) (past : List Frame) (xs ys : List Arrival) : Type 0 where
  of_came : reverse came ≡ reverse xs ++ of_role Came past
  of_left : reverse left ≡ reverse ys ++ of_role Left past

module _ (came left : Coming) where
  abbrev Told : List Frame → List Arrival → List Arrival → Type 0
  Told past xs ys = AreTold came.next left.next past xs ys

  told-came : (past : List Frame) (x : Arrival) (xs ys : List Arrival) → IsNext by_frame_time x ys
      → Told past (x ∷ xs) ys → Told (frame_with Came x ∷ past) xs ys
  unfolding of_role
  told-came past x xs ys is h =
      record { of_came = h.of_came ∙ reverse-taken x xs (of_role Came past); of_left = h.of_left }

  told-left : (past : List Frame) (y : Arrival) (xs ys : List Arrival) → IsSooner by_frame_time y xs
      → Told past xs (y ∷ ys) → Told (frame_with Left y ∷ past) xs ys
  unfolding of_role
  told-left past y xs ys is h =
      record { of_came = h.of_came; of_left = h.of_left ∙ reverse-taken y ys (of_role Left past) }

  all-told : IsTrueOf by_frame_time Told came.fault left.fault (joined came left)
  unfolding of_role
  all-told =
      merge-keeps by_frame_time Told (record { first = told-came; second = told-left }) [] came.next came.fault
      left.next left.fault (record {
        of_came = sym (append-nil (reverse came.next));
        of_left = sym (append-nil (reverse left.next));
      })

pub each-list : EachListIsTold
each-list Came came left =
    let h = all-told came left in (reverse h.first, h.so.of_came, λ e. ap reverse (h.whole e).0)
each-list Left came left =
    let h = all-told came left in (reverse h.second, h.so.of_left, λ e. ap reverse (h.whole e).1)

-- ---- they are in order

-- these come by time, behind one of this time
abbrev pub AreFrom : ℕ → List Arrival → Type 0
AreFrom latest [] = Unit {0}
AreFrom latest (x ∷ xs) = (latest ≤ x.time) × AreFrom x.time xs

-- these of a role can come behind those frames
abbrev pub CanCome : Role → List Arrival → List Frame → Type 0
CanCome role [] past = Unit {0}
CanCome role (x ∷ xs) past = IsBehind (frame_with role x) past × AreFrom x.time xs

came-more : (x : Arrival) (xs : List Arrival) (past : List Frame) → AreFrom x.time xs
    → CanCome Came xs (frame_with Came x ∷ past)
came-more x [] past h = tt
came-more x (y ∷ xs) past h = h

left-more : (x : Arrival) (xs : List Arrival) (past : List Frame) → AreFrom x.time xs
    → CanCome Left xs (frame_with Left x ∷ past)
left-more x [] past h = tt
left-more x (y ∷ xs) past h = h

-- these came in order, and what is left of both can come
record ComeInOrder (past : List Frame) (xs ys : List Arrival) : Type 0 where
  ordered : AreInOrder past
  came : CanCome Came xs past
  left : CanCome Left ys past

order-came : (past : List Frame) (x : Arrival) (xs ys : List Arrival) → IsNext by_frame_time x ys
    → ComeInOrder past (x ∷ xs) ys → ComeInOrder (frame_with Came x ∷ past) xs ys
order-came past x xs [] is h =
    record { ordered = (h.came.0, h.ordered); came = came-more x xs past h.came.1; left = tt }
order-came past x xs (y ∷ ys) is h = record {
  ordered = (h.came.0, h.ordered);
  came = came-more x xs past h.came.1;
  left = (ltb-false y.time x.time is, h.left.1);
}

order-left : (past : List Frame) (y : Arrival) (xs ys : List Arrival) → IsSooner by_frame_time y xs
    → ComeInOrder past xs (y ∷ ys) → ComeInOrder (frame_with Left y ∷ past) xs ys
order-left past y [] ys is h =
    record { ordered = (h.left.0, h.ordered); came = tt; left = left-more y ys past h.left.1 }
order-left past y (x ∷ xs) ys is h = record {
  ordered = (h.left.0, h.ordered);
  came = (ltb-true y.time x.time is, h.came.1);
  left = left-more y ys past h.left.1;
}

pub order-join : (past : List Frame) (xs : List Arrival) (fx : Option RunFault) (ys : List Arrival)
    (fy : Option RunFault) → AreInOrder past → CanCome Came xs past → CanCome Left ys past
    → AreInOrder (merge by_frame_time past xs fx ys fy).items
order-join past xs fx ys fy order came left =
    let start : ComeInOrder past xs ys = record { ordered = order; came = came; left = left } in
    (merge-keeps by_frame_time ComeInOrder (record { first = order-came; second = order-left })
    past xs fx ys fy start).so.ordered

-- ---- lists are

from-reverse : (past rest : List Arrival) → DontGoBack past → AreFrom (latest_in frames past) rest
    → AreFrom 0 (reverse past ++ rest)
from-reverse [] rest back from = from
from-reverse (x ∷ past) rest back from =
    subst (λ (l : List Arrival). AreFrom 0 l) (sym (reverse-taken x past rest))
    (from-reverse past (x ∷ rest) back.1 (back.0, from))

pub first-from : (bytes : List ℕ) (n : ℕ) → AreFrom 0 (reverse (first_of bytes n))
first-from bytes n =
    subst (λ (l : List Arrival). AreFrom 0 l) (append-nil (reverse (first_of bytes n)))
    (from-reverse (first_of bytes n) [] (arrivals-ordered (lines_of bytes) n) tt)

pub from-same : (xs ys : List Arrival) → xs ≡ ys → AreFrom 0 ys → AreFrom 0 xs
from-same xs ys e h = subst (λ (l : List Arrival). AreFrom 0 l) (sym e) h

pub lists-from : (role : Role) (bytes : List ℕ) (next : List Arrival) (fault : Option RunFault)
    → ListsTo role bytes next fault → AreFrom 0 next
lists-from role bytes next None h = from-same _ _ h.1 (first-from bytes _)
lists-from role bytes next (Some fault) h = from-same _ _ h.4 (first-from bytes h.0)

pub can-start : (role : Role) (xs : List Arrival) → AreFrom 0 xs → CanCome role xs []
can-start role [] h = tt
can-start role (x ∷ xs) h = (tt, h.1)

pub in-order : FramesAreInOrder
in-order bytes_came bytes_left came left h k =
    order-join [] came.next came.fault left.next left.fault tt
    (can-start Came came.next (lists-from Came bytes_came came.next came.fault h))
    (can-start Left left.next (lists-from Left bytes_left left.next left.fault k))
