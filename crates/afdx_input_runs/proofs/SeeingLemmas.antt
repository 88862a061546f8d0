-- The frames among lines, of what came in and of what left: one line more.
use Rattle.std.proofs.Common.{◌≡◌, ℕ, suc, ◌≤◌, List, [], ◌∷◌, ◌++◌, length, refl, ap, sym, subst, ◌∙◌, arith, Bool}
use Rattle.afdx_frame.specs.declared.link.Side.{Side}
use Rattle.afdx_frame.specs.declared.seals.Seal.{Seal}
use Rattle.afdx_input_lines.specs.declared.fault.RunFault.{RunFault}
use Rattle.afdx_input_lines.specs.declared.frame_line.FrameKind.{FrameKind}
use Rattle.afdx_input_lines.specs.declared.role.Role.{Role}
use Rattle.afdx_input_sources.specs.Engine.{Item, item_of}
use Rattle.afdx_input_sources.specs.declared.counts.Tally.{Tally}
use Rattle.afdx_input_sources.specs.declared.number_line.NumberLine.{NumberLine}
use Rattle.afdx_input_sources.specs.declared.number_line.NumberLine.TheVariants as line
use Rattle.afdx_input_sources.specs.declared.skipped.Skipped.{Skipped}
use Rattle.afdx_input_sources.specs.Becoming.{has_own, seal_by, without_own}
use Rattle.afdx_input_sources.specs.NumberLines.{AreItems, CanBePeeled, Lines, LineFollows, WithoutNewest, latest_time, time_or}
use Rattle.afdx_input_sources.specs.Taking.{Taken}
use Rattle.afdx_input_sources.proofs.Sealing.{known}
use Rattle.afdx_input_runs.specs.Joining.{Frame, frame_of, frames_of}
use Rattle.afdx_input_runs.specs.ListText.{lines_themselves}
use Rattle.afdx_input_runs.specs.Over.{AreAllLines, AreFirstLines, StopsBehindLines, Takes}
use Rattle.afdx_input_runs.specs.Seeing.{SeenFollows, latest_seen}
use Rattle.afdx_input_runs.specs.SeenLines.{as_seen, frames_in, frames_listed, seen_listed}
use Rattle.afdx_input_runs.specs.declared.seen.Seen.{Seen}

-- the time of the newest frame is that of the newest that is listed
latest-next : (n : ℕ) (bytes : List ℕ) (head : NumberLine) (past : List (Item Seen)) (latest : ℕ)
    → latest_seen past ≡ latest → latest_seen (as_seen n bytes head past) ≡ time_or head latest
latest-next n bytes (line.Arrival kind time role side switch port) past latest h = refl
latest-next n bytes (line.Skipped reason) past latest h = h

pub seen-latest : (lines : Lines) → latest_seen (seen_listed lines) ≡ latest_time lines
unfolding seen_listed latest_time
seen-latest [] = refl
seen-latest (x ∷ past) =
    latest-next x.number x.bytes x.head (seen_listed past) (latest_time past) (seen-latest past)

few-next : (n : ℕ) (bytes : List ℕ) (head : NumberLine) (past : List (Item Seen)) (m : ℕ) → length past ≤ m
    → length (as_seen n bytes head past) ≤ suc m
few-next n bytes (line.Arrival kind time role side switch port) past m h = omega (arith, h)
few-next n bytes (line.Skipped reason) past m h = omega (arith, h)

pub seen-few : (lines : Lines) → length (seen_listed lines) ≤ length lines
unfolding seen_listed
seen-few [] = omega arith
seen-few (x ∷ past) = few-next x.number x.bytes x.head (seen_listed past) (length past) (seen-few past)

-- a number that is skipped is no frame
pub skipped-none : (x : Item NumberLine) (reason : Skipped) (lines : Lines) → x.head ≡ line.Skipped reason
    → seen_listed (x ∷ lines) ≡ seen_listed lines
unfolding seen_listed
skipped-none x reason lines e = rw e refl

module _ (x : Item NumberLine) (lines : Lines) (kind : FrameKind) (time : ℕ) (role : Role) (side : Side)
    (switch port : ℕ) (own : Bool) (seal : Seal) (is : x.head ≡ line.Arrival kind time role side switch port)
    (own-is : own ≡ has_own kind x.bytes)
    (seal-is : seal ≡ seal_by kind own) where
  abbrev Passes : Item Seen
  Passes =
      item_of x.number (record {
        role = role;
        heading = record { time = time; side = side; switch = switch; port = port; seal = seal };
      })
      (without_own own x.bytes)

  -- a frame stands in front
  pub frame-first : Passes ∷ seen_listed lines ≡ seen_listed (x ∷ lines)
  unfolding seen_listed
  frame-first = rw (is, seal-is, own-is) refl

  -- and can
  pub frame-follows : LineFollows lines x → SeenFollows (seen_listed lines) Passes
  unfolding latest_time
  frame-follows h =
      let few = seen-few lines in record {
        order = rw (seen-latest lines) (rw is at h.order);
        early = rw is at h.early;
        few = omega (arith, few, h.few);
        sealed = rw (seal-is, own-is) (known kind x.bytes);
      }

  -- so it is given behind those before it
  pub frame-given : (known-so : Lines → Type 0) (past : List (Item Seen)) → past ≡ seen_listed lines
      → known-so (x ∷ lines) → LineFollows lines x
      → AreItems seen_listed known-so (Passes ∷ past) × SeenFollows past Passes
  frame-given known-so past e k h = (
    record {
      lines = x ∷ lines;
      known_so = k;
      items_are = ap (λ (xs : List (Item Seen)). Passes ∷ xs) e ∙ frame-first;
    },
    subst (λ (xs : List (Item Seen)). SeenFollows xs Passes) (sym e) (frame-follows h),
  )

-- a number that is skipped changes nothing
pub skipped-given : (known-so : Lines → Type 0) (past : List (Item Seen)) (x : Item NumberLine) (reason : Skipped)
    (lines : Lines) → x.head ≡ line.Skipped reason → past ≡ seen_listed lines → known-so (x ∷ lines)
    → AreItems seen_listed known-so past
skipped-given known-so past x reason lines is e k = record {
  lines = x ∷ lines;
  known_so = k;
  items_are = e ∙ sym (skipped-none x reason lines is);
}

-- no lines are no frames
pub seen-none : seen_listed [] ≡ []
unfolding seen_listed
seen-none = refl

-- without the newest frame
pub seen-peeled : CanBePeeled seen_listed
unfolding seen_listed
seen-peeled [] = record { before = []; after = []; parts = refl; items_are = refl }
seen-peeled (x ∷ lines) = by x x.head refl (seen-peeled lines)
  where
    by : (x : Item NumberLine) (head : NumberLine) → x.head ≡ head → WithoutNewest seen_listed lines
        → WithoutNewest seen_listed (x ∷ lines)
    by x (line.Arrival kind time role side switch port) e w = record {
      before = lines;
      after = x ∷ [];
      parts = refl;
      items_are = rw e refl;
    }
    by x (line.Skipped reason) e w = record {
      before = w.before;
      after = x ∷ w.after;
      parts = ap (λ (xs : Lines). x ∷ xs) w.parts;
      items_are = rw e w.items_are;
    }

-- what is taken of lines, is so of their frames
pub frames-taken : (whole : Taken) (AreCut : Lines → Type 0) (gave ended : Lines → Type 0)
    (stopped : Lines → RunFault → Type 0) (counted : Tally)
    → Takes lines_themselves whole AreCut gave ended stopped counted
    → Takes seen_listed whole AreCut (AreItems seen_listed gave) (AreItems seen_listed ended)
    (λ past fault. AreItems seen_listed (λ lines. stopped lines fault) past) counted
frames-taken whole AreCut gave ended stopped counted t = record {
  first = λ past k. of-lines (AreFirstLines whole) past k.lines (t.first k.lines k.known_so) k.items_are;
  all = λ past k. of-lines (AreAllLines whole) past k.lines (t.all k.lines k.known_so) k.items_are;
  tally = λ past k. t.tally k.lines k.known_so;
  stops = λ past fault k. of-lines (λ lines. StopsBehindLines whole AreCut lines fault) past k.lines
      (t.stops k.lines fault k.known_so) k.items_are;
}
  where
    of-lines : (known : Lines → Type 0) (past : List (Item Seen)) (lines : Lines)
        → AreItems lines_themselves known lines
        → past ≡ seen_listed lines → AreItems seen_listed known past
    of-lines known past lines k e = record {
      lines = k.lines;
      known_so = k.known_so;
      items_are = e ∙ ap seen_listed k.items_are;
    }

-- ---- some first lines are of the first frames

seen-append : (later past : Lines) → seen_listed (later ++ past) ≡ seen_listed later ++ seen_listed past
unfolding seen_listed
seen-append [] past = refl
seen-append (x ∷ later) past =
    ap (λ (xs : List (Item Seen)). as_seen x.number x.bytes x.head xs) (seen-append later past)
    ∙ by x.number x.bytes x.head (seen_listed later) (seen_listed past)
  where
    by : (n : ℕ) (bytes : List ℕ) (head : NumberLine) (xs ys : List (Item Seen))
        → as_seen n bytes head (xs ++ ys) ≡ as_seen n bytes head xs ++ ys
    by n bytes (line.Arrival kind time role side switch port) xs ys = refl
    by n bytes (line.Skipped reason) xs ys = refl

frames-append : (later past : List (Item Seen)) → frames_of (later ++ past) ≡ frames_of later ++ frames_of past
frames-append [] past = refl
frames-append (x ∷ later) past = ap (λ (xs : List Frame). frame_of x ∷ xs) (frames-append later past)

pub first-frames : (whole : Taken) (later past : Lines) → whole.lines ≡ later ++ past
    → frames_in whole ≡ frames_listed later ++ frames_listed past
first-frames whole later past parts =
    ap (λ (xs : Lines). frames_listed xs) parts
    ∙ ap frames_of (seen-append later past)
    ∙ frames-append (seen_listed later) (seen_listed past)
