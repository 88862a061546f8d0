-- The arrivals at a port of one of several switches are those that the lines there say.
use Rattle.std.proofs.Common.{◌≡◌, ℕ, zero, suc, ◌+◌, ◌<◌, ◌≤◌, ◌==◌, ◌&&◌, Bool, true}
use Rattle.std.proofs.Common.{false, if◌then◌else◌, List, [], ◌∷◌, ◌++◌, length, take, filter}
use Rattle.std.proofs.Common.{Option, Some, None, refl, sym, ap, subst, ◌∙◌, arith, nat_lt, nat_le}
use Rattle.std.proofs.Common.{slice_index_or}
use Rattle.std.specs.Prelude.{Result, Ok, Err}
use Rattle.std.proofs.lemmas.List.{append-nil}
use Rattle.std.proofs.lemmas.List.Elements.{filter-append}
use Rattle.std.proofs.Math.Seq.{take-suc}
use Rattle.afdx_frame.specs.Sides.{is_side}
use Rattle.afdx_frame.specs.declared.link.Side.{Side}
use Rattle.afdx_police.specs.Arrival.{Arrival}
use Rattle.afdx_cascade.specs.Parts.{frames_of, frames_to}
use Rattle.afdx_cascade.specs.Runs.{Line}
use Rattle.afdx_input_lines.specs.SitedLines.{NamedCables, SitedFrame, sited_line_says}
use Rattle.afdx_input_lines.proofs.SitedLemmas.{sited_line_says-alone}
use Rattle.afdx_input_lines.specs.declared.fault.LineFault.{LineFault}
use Rattle.afdx_input_lines.specs.declared.fault.RunFault.TheVariants as run
use Rattle.afdx_input_lines.specs.Lines.{most_lines, longest_line}
use Rattle.afdx_law_promises.specs.Sent.{arrivals_at}
use Rattle.afdx_input_sources.specs.Lists.{HaveNoFault, with_item, item_said, items_of, fault_in, fault_said}
use Rattle.afdx_replay.specs.cascading.Sited.{line_with, sited_frames}
use Rattle.afdx_law_text.specs.Several.{lines_there, says_there}

module _ (sites : List NamedCables) where
  -- an arrival is the frame that a line says
  pub record IsSaidAt (line : List ℕ) (x : Arrival) : Type 0 where
    pub frame : SitedFrame
    pub said : sited_line_says sites 0 line ≡ Ok (Some frame)
    pub time : x.time ≡ frame.frame.time
    pub bytes : x.bytes ≡ frame.frame.bytes

  -- arrivals, the newest first, are those of these lines
  abbrev pub AreSaidAt : List Arrival → List (List ℕ) → Type 0
  AreSaidAt [] lines = lines ≡ []
  AreSaidAt (x ∷ past) lines = (front : List (List ℕ)) × (line : List ℕ)
      × (lines ≡ front ++ line ∷ []) × IsSaidAt line x × AreSaidAt past front

module _ (sites : List NamedCables) (k : ℕ) (side : Side) (port : ℕ) where
  abbrev there : List ℕ → Bool
  there line = says_there k side port (sited_line_says sites 0 line)

  line-more : (list : List (List ℕ)) (n : ℕ) → n < length list
      → lines_there sites k side port (take (suc n) list) ≡ lines_there sites k side port (take n list)
      ++ filter there (slice_index_or list n [] ∷ [])
  line-more list n lt = ap (filter there) (take-suc list n [] lt)
      ∙ filter-append there (take n list) (slice_index_or list n [] ∷ [])

  line-off : (list : List (List ℕ)) (n : ℕ) → n < length list → there (slice_index_or list n [])
      ≡ false → lines_there sites k side port (take (suc n) list) ≡ lines_there sites k side port (take n list)
  line-off list n lt off = line-more list n lt
      ∙ ap (λ b. lines_there sites k side port (take n list)
      ++ (if b then slice_index_or list n [] ∷ [] else [])) off
      ∙ append-nil (lines_there sites k side port (take n list))

  line-on : (list : List (List ℕ)) (n : ℕ) → n < length list → there (slice_index_or list n [])
      ≡ true → lines_there sites k side port (take (suc n) list) ≡ lines_there sites k side port (take n list)
      ++ slice_index_or list n [] ∷ []
  line-on list n lt on = line-more list n lt
      ∙ ap (λ b. lines_there sites k side port (take n list) ++ (if b then slice_index_or list n [] ∷ [] else [])) on

  abbrev past_at : List (List ℕ) → ℕ → List Line
  past_at list n = items_of (sited_frames sites) list n

  abbrev arrived_at : List (List ℕ) → ℕ → List Arrival
  arrived_at list n = arrivals_at side port (frames_to k (past_at list n))

  said-ok : (list : List (List ℕ)) (n : ℕ) (fault : LineFault) → fault_in (sited_frames sites) list n ≡ None
      → item_said (sited_frames sites) list n ≡ Err fault → ⊥
  said-ok list n fault none e = by (nat_le most_lines n)
      (nat_lt longest_line (length (slice_index_or list n []))) (rw e at none)
    where
      by : (many long : Bool) →
          (if many then Some run.TooManyLines else if long then Some (run.LineTooLong (n + 1)) else
          fault_said {Y = SitedFrame} (n + 1) (Err fault)) ≡ None → ⊥
      by true long h = cc h
      by false true h = cc h
      by false false h = cc h

  pub said-there : (list : List (List ℕ)) (n : ℕ) → n ≤ length list → HaveNoFault (sited_frames sites) list n
      → AreSaidAt sites (arrived_at list n) (lines_there sites k side port (take n list))
  unfolding items_of
  said-there list zero le sound = refl
  said-there list (suc n) le sound =
      by (item_said (sited_frames sites) list n) refl
      (said-there list n (omega (arith, le)) (λ i lt. sound i (omega (arith, lt))))
    where
      line : List ℕ
      line = slice_index_or list n []

      alone : (o : Option SitedFrame) → item_said (sited_frames sites) list n ≡ Ok o
          → sited_line_says sites 0 (slice_index_or list n []) ≡ Ok o
      alone o e = sited_line_says-alone sites _ (slice_index_or list n []) o e

      off : (b : Bool) → there (slice_index_or list n []) ≡ b → b ≡ false
          → AreSaidAt sites (arrived_at list n) (lines_there sites k side port (take n list))
          → AreSaidAt sites (arrived_at list n) (lines_there sites k side port (take (suc n) list))
      off b test is rest =
          subst (λ (z : List (List ℕ)). AreSaidAt sites (arrived_at list n) z)
          (sym (line-off list n (omega (arith, le)) (test ∙ is))) rest

      by_test : (f : SitedFrame) → item_said (sited_frames sites) list n ≡ Ok (Some f) → (a b : Bool)
          → (f.switch == k) ≡ a → (is_side side f.frame.side && (port == f.frame.port)) ≡ b
          → AreSaidAt sites (arrived_at list n) (lines_there sites k side port (take n list))
          → AreSaidAt sites
          (arrivals_at side port (frames_of (if a then line_with (suc n) f
          ∷ filter (λ x. x.switch == k) (past_at list n) else filter (λ x. x.switch == k) (past_at list n))))
          (lines_there sites k side port (take (suc n) list))
      by_test f e false b here test rest =
          off (there (slice_index_or list n [])) refl
          (ap (says_there k side port) (alone (Some f) e)
          ∙ ap (λ c. c && (is_side side f.frame.side && (port == f.frame.port))) here) rest
      by_test f e true false here test rest =
          subst (λ (z : List Arrival). AreSaidAt sites z (lines_there sites k side port (take (suc n) list)))
          (sym (ap (λ c. if c then (line_with (suc n) f).arrival ∷ arrived_at list n else arrived_at list n) test))
          (off (there (slice_index_or list n [])) refl
          (ap (says_there k side port) (alone (Some f) e)
          ∙ ap (λ c. c && (is_side side f.frame.side && (port == f.frame.port))) here ∙ test) rest)
      by_test f e true true here test rest =
          subst (λ (z : List Arrival). AreSaidAt sites z (lines_there sites k side port (take (suc n) list)))
          (sym (ap (λ c. if c then (line_with (suc n) f).arrival ∷ arrived_at list n else arrived_at list n) test)) (
            lines_there sites k side port (take n list),
            slice_index_or list n [],
            line-on list n (omega (arith, le)) (ap (says_there k side port) (alone (Some f) e)
                ∙ ap (λ c. c && (is_side side f.frame.side && (port == f.frame.port))) here ∙ test),
            record { frame = f; said = alone (Some f) e; time = refl; bytes = refl },
            rest,
          )

      by : (r : Result (Option SitedFrame) LineFault) → item_said (sited_frames sites) list n ≡ r
          → AreSaidAt sites (arrived_at list n) (lines_there sites k side port (take n list)) →
          AreSaidAt sites
          (arrivals_at side port (frames_to k (with_item (sited_frames sites) (suc n) r (past_at list n))))
          (lines_there sites k side port (take (suc n) list))
      by (Ok (Some f)) e rest =
          by_test f e (f.switch == k) (is_side side f.frame.side && (port == f.frame.port)) refl refl rest
      by (Ok None) e rest =
          off (there (slice_index_or list n [])) refl (ap (says_there k side port) (alone None e)) rest
      by (Err fault) e rest = absurd (said-ok list n fault (sound n (omega arith)) e)
