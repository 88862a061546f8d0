-- What is told of the frames that came too early.
use Rattle.std.proofs.Common.{◌≡◌, ℕ, true, List, [], ◌∷◌, ◌++◌, Option, Some, None, refl, sym, ap, ◌∙◌}
use Rattle.std.proofs.Common.{Bool, subst}
use Rattle.afdx_config.specs.Rows.{Rows}
use Rattle.afdx_police.specs.Arrival.{Arrival}
use Rattle.afdx_police.specs.declared.shape.Reason.{Reason}
use Rattle.afdx_police.specs.declared.shape.Reason.TheVariants.{OverRate}
use Rattle.afdx_police.specs.Verdicts.{is_over_rate}
use Rattle.afdx_police.proofs.EarlyLemmas.{is_over_rate-true}
use Rattle.afdx_input_lines.specs.declared.watched.Watched.{Watched}
use Rattle.afdx_switch.specs.Early.{IsEarlyBy}
use Rattle.afdx_switch.specs.Verdicts.{reason_of, shape_fault}
use Rattle.afdx_switch.proofs.EarlyLemmas.{early-dropped, over-rate-sound}
use Rattle.afdx_text.specs.Telling.{Tells}
use Rattle.afdx_text.proofs.TellingLemmas.{Tells-more, Tells-none}
use Rattle.afdx_replay.specs.Early.{HearsText, IsLineOn, IsOneMore, early_line}

module _ {D : Type 0} (contents : D → Option (List ℕ)) where
  -- nothing was told yet
  pub hears-start : (holds : List ℕ → Type 0) (early : Option (Watched D)) → holds []
      → HearsText contents holds early early
  hears-start holds None none = tt
  hears-start holds (Some drops) none = record { text = []; lines = none; told = Tells-none contents drops }

  -- there is nobody to tell
  pub hears-nobody : (holds more : List ℕ → Type 0) (start early : Option (Watched D))
      → ((drops : Watched D) → early ≡ Some drops → ⊥) → HearsText contents holds start early
      → HearsText contents more start early
  hears-nobody holds more None None none was = tt
  hears-nobody holds more (Some first) None none was = was
  hears-nobody holds more start (Some drops) none was = absurd (none drops refl)

  module _ (holds is_line : List ℕ → Type 0) where
    -- one line more
    pub hears-more : (start : Option (Watched D)) (drops after : Watched D) (line : List ℕ) → is_line line
        → Tells contents drops after line → HearsText contents holds start (Some drops)
        → HearsText contents (IsOneMore holds is_line) start (Some after)
    hears-more None drops after line is told was = was
    hears-more (Some first) drops after line is told was = record {
      text = was.text ++ line;
      lines = record { before = was.text; line = line; are_before = was.lines; is = is; whole = refl };
      told = Tells-more contents first drops after was.text line was.told told;
    }

    -- of which there is none
    pub hears-same : (start early : Option (Watched D)) → is_line [] → HearsText contents holds start early
        → HearsText contents (IsOneMore holds is_line) start early
    hears-same None None is was = tt
    hears-same (Some first) None is was = was
    hears-same start (Some drops) is was = hears-more start drops drops [] is (Tells-none contents drops) was

-- the line of an arrival, or that there is none
module _ (t : Rows) (past : List Arrival) (x : Arrival) (reason : Option Reason) (is : reason ≡ reason_of t past x)
    (place : Option (List ℕ)) where
  pub line-on : (over : Bool) (line : List ℕ) → is_over_rate reason ≡ over → IsLineOn t past x place over line
      → IsLineOn t past x place (is_over_rate (reason_of t past x)) line
  line-on over line e on =
      subst (λ (b : Bool). IsLineOn t past x place b line) (sym (sym (ap is_over_rate is) ∙ e)) on

  pub early-on : (wait : ℕ) → is_over_rate reason ≡ true → (shape_fault t x ≡ None → IsEarlyBy t (x ∷ past) x wait)
      → IsLineOn t past x place (is_over_rate (reason_of t past x)) (early_line x.tag place wait)
  early-on wait over early =
      let dropped : reason_of t past x ≡ Some OverRate = sym is ∙ is_over_rate-true reason over in
      line-on true (early_line x.tag place wait) over
      (wait, early-dropped t past x OverRate wait dropped (early (over-rate-sound t past x dropped)), refl)
