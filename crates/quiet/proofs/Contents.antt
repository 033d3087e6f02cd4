-- Contents that fit and obey.
use Rattle.std.proofs.Common.{◌≡◌, ℕ, suc, ◌+◌, ◌<◌, Bool, true, not, ◌&&◌, ◌||◌, eqb, ltb, List, [], ◌∷◌, length, get_or, Some, None, Option, refl, ap, inl, inr, arith}
use Rattle.std.specs.List.{list_all}
use Rattle.std.proofs.lemmas.Bool.{cases_eq, eq-eqb, ne_eqb, and_from, or_left, or_right, lt-ltb}
use Rattle.order.specs.Laws.{Lawful}
use Rattle.order.specs.RoleSets.{SetBelow, set_below}
use Rattle.rows.specs.declared.row.JobRow.{JobRow}
use Rattle.rows.specs.declared.row.PatternRow.{PatternRow}
use Rattle.rows.specs.declared.row.TreeLine.{TreeLine}
use Rattle.layout.specs.Network.{TreeLines, Plan}
use Rattle.layout.specs.Zeros.{line0, job0}
use Rattle.meaning.specs.declared.contents.Content.{Content}
use Rattle.meaning.specs.declared.contents.Content.TheVariants as content
use Rattle.scan.specs.Scan.{clear}
use Rattle.obeying.specs.Breaches.{tree_breach}
use Rattle.slots.specs.declared.part.Part.{Part}
use Rattle.slots.specs.declared.part.Part.TheVariants as part
use Rattle.slots.specs.Slots.{part_at}
use Rattle.pasting.specs.Templates.{template_lines}
use Rattle.pasting.specs.Words.{IsRoute, PartFits, HeldFits, LineFits, ContentFits, least_of, PartObeys, LineObeys, TemplateObeys, ContentObeys}
use Rattle.pasting.specs.Tests.{is_route, part_fits, held_fits, line_fits, content_fits, part_obeys, line_obeys, template_obeys, has_job, content_obeys}
use Rattle.quiet.proofs.Sets.{set_passes}
use Rattle.quiet.proofs.Trees.{tree_quiet}

-- what holds of each passes a test of all
pub all_pass : {X : Type 0} (P : X → Type 0) (test : X → Bool) → ((x : X) → P x → test x ≡ true) → (z : X) (xs : List X) → ((k : ℕ) → k < length xs → P (get_or xs k z)) → list_all test xs ≡ true
all_pass P test f z [] w = refl
all_pass P test f z (x ∷ xs) w = and_from (test x) (list_all test xs) (f x (w 0 (omega arith))) (all_pass P test f z xs (λ k h. w (suc k) (omega arith)))

route_passes : (o : Option Part) → IsRoute o → is_route o ≡ true
route_passes None w = absurd w
route_passes (Some part.Number) w = absurd w
route_passes (Some (part.Script policy)) w = absurd w
route_passes (Some (part.Place policy)) w = absurd w
route_passes (Some (part.Route last)) w = refl
route_passes (Some (part.Tree policy top all)) w = absurd w

part_passes : (o next : Option Part) → PartFits o next → part_fits o next ≡ true
part_passes None next w = absurd w
part_passes (Some part.Number) next w = refl
part_passes (Some (part.Script policy)) next w = refl
part_passes (Some (part.Place policy)) next w = route_passes next w
part_passes (Some (part.Route last)) next w = absurd w
part_passes (Some (part.Tree policy top all)) next w = refl

held_passes : (patterns : List PatternRow) (slots : List ℕ) (slot : ℕ) → HeldFits patterns slots slot → held_fits patterns slots slot ≡ true
held_passes patterns slots slot w = part_passes (part_at patterns slots slot) (part_at patterns slots (slot + 1)) w

-- a question of lines of one content
if_content : (n k : ℕ) (P : Type 0) (test : Bool) → (P → test ≡ true) → (n ≡ k → P) → (not (eqb n k) || test) ≡ true
if_content n k P test f w = elim (cases_eq n k) [ inl e ↦ or_right (not (eqb n k)) test (f (w e)) | inr m ↦ or_left (not (eqb n k)) test (ap not (ne_eqb n k m)) ]

pub fits_pass : (p : Plan) (slots : List ℕ) (c : Content) → ContentFits p slots c → content_fits p slots c ≡ true
fits_pass p slots content.Tree w = refl
fits_pass p slots (content.Number n) w = refl
fits_pass p slots (content.Script job) w = refl
fits_pass p slots (content.Pointer path location) w = refl
fits_pass p slots (content.Held slot) w = held_passes p.patterns slots slot w
fits_pass p slots (content.Template template) w =
    all_pass (LineFits p.patterns slots) (line_fits p.patterns slots)
    (λ x. if_content x.content 4 (HeldFits p.patterns slots x.first) (held_fits p.patterns slots x.first) (held_passes p.patterns slots x.first))
    line0 (template_lines p.templates template) w

pub job_passes : (jobs : List JobRow) (policy job : ℕ) → (job < length jobs) × ((get_or jobs job job0).policy ≡ policy) → has_job jobs policy job ≡ true
job_passes jobs policy job w =
    and_from (ltb job (length jobs)) (eqb (get_or jobs job job0).policy policy) (lt-ltb job (length jobs) w.0) (eq-eqb (get_or jobs job job0).policy policy w.1)

module _ {count top : ℕ} {below : ℕ → ℕ → Bool} (law : Lawful count top below) (p : Plan) (policy : ℕ) where
  obeys_passes : (above : ℕ) (o : Option Part) → PartObeys below p policy above o → part_obeys below p policy above o ≡ true
  obeys_passes above None w = refl
  obeys_passes above (Some part.Number) w = refl
  obeys_passes above (Some (part.Script own)) w = eq-eqb own policy w
  obeys_passes above (Some (part.Place own)) w = refl
  obeys_passes above (Some (part.Route last)) w = refl
  obeys_passes above (Some (part.Tree own topmost all)) w =
      and_from (eqb own policy) (set_below below (least_of p policy) topmost && set_below below above topmost) (eq-eqb own policy w.0)
      (and_from (set_below below (least_of p policy) topmost) (set_below below above topmost) (set_passes law (least_of p policy) topmost w.1.0) (set_passes law above topmost w.1.1))

  line_passes : (above : ℕ) (slots : List ℕ) (x : TreeLine) → LineObeys below p policy above slots x → line_obeys below p policy above slots x ≡ true
  line_passes above slots x w =
      and_from (not (eqb x.depth 1) || set_below below above x.set) (not (eqb x.content 4) || part_obeys below p policy x.set (part_at p.patterns slots x.first))
      (if_content x.depth 1 (SetBelow below above x.set) (set_below below above x.set) (set_passes law above x.set) w.outermost)
      (if_content x.content 4 (PartObeys below p policy x.set (part_at p.patterns slots x.first)) (part_obeys below p policy x.set (part_at p.patterns slots x.first))
      (obeys_passes x.set (part_at p.patterns slots x.first)) w.held)

  template_passes : (above : ℕ) (slots : List ℕ) (tree : TreeLines) → TemplateObeys below p policy above slots tree → template_obeys below p policy above slots tree ≡ true
  template_passes above slots tree w =
      and_from (clear (tree_breach below (least_of p policy) p.jobs policy tree)) (list_all (line_obeys below p policy above slots) tree)
      (ap clear (tree_quiet law (least_of p policy) p.jobs policy tree w.obeys))
      (all_pass (LineObeys below p policy above slots) (line_obeys below p policy above slots) (line_passes above slots) line0 tree w.lines)

  pub content_passes : (above : ℕ) (slots : List ℕ) (c : Content) → ContentObeys below p policy above slots c → content_obeys below p policy above slots c ≡ true
  content_passes above slots content.Tree w = refl
  content_passes above slots (content.Number n) w = refl
  content_passes above slots (content.Script job) w = job_passes p.jobs policy job w
  content_passes above slots (content.Pointer path location) w = refl
  content_passes above slots (content.Held slot) w = obeys_passes above (part_at p.patterns slots slot) w
  content_passes above slots (content.Template template) w = template_passes above slots (template_lines p.templates template) w
