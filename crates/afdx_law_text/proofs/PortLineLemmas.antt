-- The arrivals at a port are those that the lines at the port say.
use Rattle.std.proofs.Common.{◌≡◌, ℕ, zero, suc, ◌+◌, ◌<◌, ◌≤◌, ◌==◌, ◌&&◌, Bool, true}
use Rattle.std.proofs.Common.{false, if◌then◌else◌, List, [], ◌∷◌, ◌++◌, length, take, filter}
use Rattle.std.proofs.Common.{Option, Some, None, refl, sym, ap, subst, ◌∙◌, arith, nat_lt, nat_le}
use Rattle.std.proofs.Common.{slice_index_or}
use Rattle.std.specs.Prelude.{Result, Ok, Err}
use Rattle.std.proofs.lemmas.List.{append-nil}
use Rattle.std.proofs.lemmas.List.Elements.{filter-append}
use Rattle.std.proofs.Math.Seq.{take-suc}
use Rattle.afdx_frame.specs.Sides.{is_side}
use Rattle.afdx_frame.specs.declared.link.Side.{Side}
use Rattle.afdx_police.specs.Arrival.{Arrival}
use Rattle.afdx_input_lines.specs.FrameLines.{ListedFrame, line_says}
use Rattle.afdx_input_lines.proofs.FrameLemmas.{line_says-alone}
use Rattle.afdx_input_lines.specs.declared.fault.LineFault.{LineFault}
use Rattle.afdx_input_lines.specs.declared.fault.RunFault.TheVariants as run
use Rattle.afdx_input_lines.specs.Lines.{most_lines, longest_line}
use Rattle.afdx_law_promises.specs.Sent.{arrivals_at}
use Rattle.afdx_law_text.specs.EndToEnd.{says_at, lines_at}
use Rattle.afdx_input_sources.specs.Listed.{frames, arrival_at, arrivals_of, AreSound}
use Rattle.afdx_input_sources.specs.Lists.{with_item, item_said, items_of, fault_in, fault_said}

-- an arrival is the frame that a line says
pub record IsSaidBy (line : List ℕ) (x : Arrival) : Type 0 where
  pub frame : ListedFrame
  pub said : line_says 0 line ≡ Ok (Some frame)
  pub time : x.time ≡ frame.time
  pub bytes : x.bytes ≡ frame.bytes

-- arrivals, the newest first, are those of these lines
abbrev pub AreSaidBy : List Arrival → List (List ℕ) → Type 0
AreSaidBy [] lines = lines ≡ []
AreSaidBy (x ∷ past) lines = (front : List (List ℕ)) × (line : List ℕ)
    × (lines ≡ front ++ line ∷ []) × IsSaidBy line x × AreSaidBy past front

module _ (side : Side) (port : ℕ) where
  abbrev at_port : List ℕ → Bool
  at_port line = says_at side port (line_says 0 line)

  line-more : (list : List (List ℕ)) (n : ℕ) → n < length list
      → lines_at side port (take (suc n) list) ≡ lines_at side port (take n list)
      ++ filter at_port (slice_index_or list n [] ∷ [])
  line-more list n lt = ap (filter at_port) (take-suc list n [] lt)
      ∙ filter-append at_port (take n list) (slice_index_or list n [] ∷ [])

  line-off : (list : List (List ℕ)) (n : ℕ) → n < length list → at_port (slice_index_or list n [])
      ≡ false → lines_at side port (take (suc n) list) ≡ lines_at side port (take n list)
  line-off list n lt off = line-more list n lt
      ∙ ap (λ b. lines_at side port (take n list)
      ++ (if b then slice_index_or list n [] ∷ [] else [])) off
      ∙ append-nil (lines_at side port (take n list))

  line-on : (list : List (List ℕ)) (n : ℕ) → n < length list → at_port (slice_index_or list n [])
      ≡ true → lines_at side port (take (suc n) list) ≡ lines_at side port (take n list)
      ++ slice_index_or list n [] ∷ []
  line-on list n lt on = line-more list n lt
      ∙ ap (λ b. lines_at side port (take n list) ++ (if b then slice_index_or list n [] ∷ [] else [])) on

  said-ok : (list : List (List ℕ)) (n : ℕ) (fault : LineFault) → fault_in frames list n ≡ None
      → item_said frames list n ≡ Err fault → ⊥
  said-ok list n fault none e = by (nat_le most_lines n)
      (nat_lt longest_line (length (slice_index_or list n []))) (rw e at none)
    where
      by : (many long : Bool) →
          (if many then Some run.TooManyLines else if long then Some (run.LineTooLong (n + 1)) else
          fault_said {Y = ListedFrame} (n + 1) (Err fault)) ≡ None → ⊥
      by true long h = cc h
      by false true h = cc h
      by false false h = cc h

  pub said-by : (list : List (List ℕ)) (n : ℕ) → n ≤ length list → AreSound list n
      → AreSaidBy (arrivals_at side port (arrivals_of list n)) (lines_at side port (take n list))
  unfolding items_of
  said-by list zero le sound = refl
  said-by list (suc n) le sound =
      by (item_said frames list n) refl
      (said-by list n (omega (arith, le)) (λ i lt. sound i (omega (arith, lt))))
    where
      line : List ℕ
      line = slice_index_or list n []

      by_test : (f : ListedFrame) → item_said frames list n ≡ Ok (Some f) → (b : Bool)
          → (is_side side f.side && (port == f.port)) ≡ b
          → AreSaidBy (arrivals_at side port (arrivals_of list n)) (lines_at side port (take n list)) →
          AreSaidBy (if b then arrival_at (suc n) f ∷ arrivals_at side port (arrivals_of list n)
          else arrivals_at side port (arrivals_of list n)) (lines_at side port (take (suc n) list))
      by_test f e true test rest = (
        lines_at side port (take n list),
        line,
        line-on list n (omega (arith, le))
            (ap (says_at side port) (line_says-alone _ line (Some f) e) ∙ test),
        record { frame = f; said = line_says-alone _ line (Some f) e; time = refl; bytes = refl },
        rest,
      )
      by_test f e false test rest =
          subst (λ (z : List (List ℕ)). AreSaidBy (arrivals_at side port (arrivals_of list n)) z)
          (sym (line-off list n (omega (arith, le))
          (ap (says_at side port) (line_says-alone _ line (Some f) e) ∙ test))) rest

      by : (r : Result (Option ListedFrame) LineFault) → item_said frames list n ≡ r
          → AreSaidBy (arrivals_at side port (arrivals_of list n)) (lines_at side port (take n list)) →
          AreSaidBy (arrivals_at side port (with_item frames (suc n) r (arrivals_of list n)))
          (lines_at side port (take (suc n) list))
      by (Ok (Some f)) e rest = by_test f e (is_side side f.side && (port == f.port)) refl rest
      by (Ok None) e rest = subst
          (λ (z : List (List ℕ)). AreSaidBy (arrivals_at side port (arrivals_of list n)) z)
          (sym (line-off list n (omega (arith, le))
          (ap (says_at side port) (line_says-alone _ line None e)))) rest
      by (Err fault) e rest = absurd (said-ok list n fault (sound n (omega arith)) e)
