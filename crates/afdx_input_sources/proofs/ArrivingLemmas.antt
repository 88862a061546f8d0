-- The arrivals among lines: one line more.
use Rattle.std.proofs.Common.{◌≡◌, ℕ, suc, ◌≤◌, List, [], ◌∷◌, length, refl, ap, sym, subst, ◌∙◌, arith, Bool, Some}
use Rattle.afdx_frame.specs.declared.link.Side.{Side}
use Rattle.afdx_frame.specs.declared.seals.Seal.{Seal}
use Rattle.afdx_input_lines.specs.declared.frame_line.FrameKind.{FrameKind}
use Rattle.afdx_input_lines.specs.declared.frame_line.Heading.{Heading}
use Rattle.afdx_input_sources.specs.Engine.{Item, item_of}
use Rattle.afdx_input_sources.specs.Items.{CanFollow, arrivals}
use Rattle.afdx_input_sources.specs.MergedSource.{latest_by}
use Rattle.afdx_input_sources.specs.Lists.{latest_in}
use Rattle.afdx_input_sources.specs.Listed.{frames}
use Rattle.afdx_input_lines.specs.declared.role.Role.{Role}
use Rattle.afdx_input_sources.specs.declared.number_line.NumberLine.{NumberLine}
use Rattle.afdx_input_sources.specs.declared.number_line.NumberLine.TheVariants as line
use Rattle.afdx_input_sources.specs.declared.skipped.Skipped.{Skipped}
use Rattle.afdx_input_sources.specs.Becoming.{has_own, seal_by, without_own}
use Rattle.afdx_input_sources.specs.NumberLines.{AreItems, Lines, LineFollows, arrivals_listed, as_arrival, latest_time, time_or}
use Rattle.afdx_input_sources.proofs.Sealing.{known}

-- the time of the newest arrival is that of the newest that is listed
latest-next : (n : ℕ) (bytes : List ℕ) (head : NumberLine) (past : List (Item Heading)) (latest : ℕ)
    → latest_in frames (arrivals past) ≡ latest
    → latest_in frames (arrivals (as_arrival n bytes head past)) ≡ time_or head latest
latest-next n bytes (line.Arrival kind time role side switch port) past latest h = refl
latest-next n bytes (line.Skipped reason) past latest h = h

pub listed-latest : (lines : Lines) → latest_in frames (arrivals (arrivals_listed lines)) ≡ latest_time lines
unfolding arrivals_listed latest_time
listed-latest [] = refl
listed-latest (x ∷ past) =
    latest-next x.number x.bytes x.head (arrivals_listed past) (latest_time past) (listed-latest past)

-- and that of the newest item of a list
pub latest-headings : (past : List (Item Heading))
    → latest_by (λ (heading : Heading). Some heading.time) past ≡ latest_in frames (arrivals past)
unfolding latest_by
latest-headings [] = refl
latest-headings (x ∷ past) = refl

few-next : (n : ℕ) (bytes : List ℕ) (head : NumberLine) (past : List (Item Heading)) (m : ℕ) → length past ≤ m
    → length (as_arrival n bytes head past) ≤ suc m
few-next n bytes (line.Arrival kind time role side switch port) past m h = omega (arith, h)
few-next n bytes (line.Skipped reason) past m h = omega (arith, h)

pub listed-few : (lines : Lines) → length (arrivals_listed lines) ≤ length lines
unfolding arrivals_listed
listed-few [] = omega arith
listed-few (x ∷ past) = few-next x.number x.bytes x.head (arrivals_listed past) (length past) (listed-few past)

-- a number that is skipped is no arrival
pub skipped-none : (x : Item NumberLine) (reason : Skipped) (lines : Lines) → x.head ≡ line.Skipped reason
    → arrivals_listed (x ∷ lines) ≡ arrivals_listed lines
unfolding arrivals_listed
skipped-none x reason lines e = rw e refl

module _ (x : Item NumberLine) (lines : Lines) (kind : FrameKind) (time : ℕ) (role : Role) (side : Side)
    (switch port : ℕ) (own : Bool) (seal : Seal) (is : x.head ≡ line.Arrival kind time role side switch port)
    (own-is : own ≡ has_own kind x.bytes)
    (seal-is : seal ≡ seal_by kind own) where
  abbrev Arrives : Item Heading
  Arrives =
      item_of x.number (record { time = time; side = side; switch = switch; port = port; seal = seal })
      (without_own own x.bytes)

  -- an arrival stands in front
  pub arrival-first : Arrives ∷ arrivals_listed lines ≡ arrivals_listed (x ∷ lines)
  unfolding arrivals_listed
  arrival-first = rw (is, seal-is, own-is) refl

  -- and can
  pub arrival-follows : LineFollows lines x → CanFollow (arrivals_listed lines) Arrives
  unfolding latest_time
  arrival-follows h =
      let few = listed-few lines in record {
        in_order = record {
          order = rw (listed-latest lines) (rw is at h.order);
          early = rw is at h.early;
          few = omega (arith, few, h.few);
        };
        sealed = rw (seal-is, own-is) (known kind x.bytes);
      }

  -- so it is given behind those before it
  pub arrival-given : (known-so : Lines → Type 0) (past : List (Item Heading)) → past ≡ arrivals_listed lines
      → known-so (x ∷ lines) → LineFollows lines x
      → AreItems arrivals_listed known-so (Arrives ∷ past) × CanFollow past Arrives
  arrival-given known-so past e k h = (
    record {
      lines = x ∷ lines;
      known_so = k;
      items_are = ap (λ (xs : List (Item Heading)). Arrives ∷ xs) e ∙ arrival-first;
    },
    subst (λ (xs : List (Item Heading)). CanFollow xs Arrives) (sym e) (arrival-follows h),
  )

-- a number that is skipped changes nothing
pub skipped-given : (known-so : Lines → Type 0) (past : List (Item Heading)) (x : Item NumberLine) (reason : Skipped)
    (lines : Lines) → x.head ≡ line.Skipped reason → past ≡ arrivals_listed lines → known-so (x ∷ lines)
    → AreItems arrivals_listed known-so past
skipped-given known-so past x reason lines is e k = record {
  lines = x ∷ lines;
  known_so = k;
  items_are = e ∙ sym (skipped-none x reason lines is);
}
