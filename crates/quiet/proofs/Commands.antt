-- Commands that keep each rule.
use Rattle.std.proofs.Common.{◌≡◌, ℕ, ◌<◌, Bool, true, ◌&&◌, eqb, List, [], ◌∷◌, length, get_or, Some, None, Option, Contains, IfSome, is_some, refl, ap, ◌∙◌, zero, suc, arith}
use Rattle.std.specs.List.{list_any}
use Rattle.std.proofs.lemmas.Bool.{cond-true, eq-eqb, and_from, or_left, or_right}
use Rattle.order.specs.Laws.{Lawful}
use Rattle.order.specs.RoleSets.{SomeBelow, SetBelow, some_below, set_below}
use Rattle.rows.specs.declared.row.GrantRow.{GrantRow}
use Rattle.layout.specs.Network.{Plan}
use Rattle.meaning.specs.declared.directions.Direction.TheVariants as direction
use Rattle.meaning.specs.declared.patterns.Pattern.{Pattern}
use Rattle.meaning.specs.declared.patterns.Pattern.TheVariants as pattern
use Rattle.meaning.specs.declared.verbs.Verb.{Verb}
use Rattle.meaning.specs.declared.verbs.Verb.TheVariants as verb
use Rattle.slots.specs.Slots.{pattern_at}
use Rattle.pasting.specs.Words.{least_of, ContentObeys}
use Rattle.pasting.specs.Tests.{content_fits, content_obeys}
use Rattle.commands.specs.declared.standing.Standing.{Standing}
use Rattle.commands.specs.declared.rule.CommandRule.{CommandRule}
use Rattle.commands.specs.declared.rule.CommandRule.TheVariants as rule
use Rattle.commands.specs.Rules.{goal_of, last_of, slots_after, used_set, EntryAsks, SlotsAsk, PathAsks, Open, PatternAsks, ContentAsks, wanted, GrantAsks, EnablingAsks, Asks}
use Rattle.commands.specs.Tests.{if_some, entry_passes, slots_pass, path_passes, opens_pattern, pattern_passes, content_passes, is_grant, granted, grant_passes, enabling_passes, broken}
use Rattle.quiet.proofs.Sets.{some_passes, set_passes}
use Rattle.quiet.proofs.Contents as contents

some_holds : (P : ℕ → Type 0) (test : ℕ → Bool) → ((x : ℕ) → P x → test x ≡ true) → (o : Option ℕ) → IfSome o P → if_some o test ≡ true
some_holds P test f None w = refl
some_holds P test f (Some x) w = f x w

is_itself : (x y : GrantRow) → y ≡ x → is_grant x y ≡ true
is_itself x y e =
    let p : y.policy ≡ x.policy = ap (λ (g : GrantRow). g.policy) e in
    let d : y.direction ≡ x.direction = ap (λ (g : GrantRow). g.direction) e in
    let h : y.holder ≡ x.holder = ap (λ (g : GrantRow). g.holder) e in
    let r : y.role ≡ x.role = ap (λ (g : GrantRow). g.role) e in
    and_from (eqb y.policy x.policy) (eqb y.direction x.direction && (eqb y.holder x.holder && eqb y.role x.role)) (eq-eqb y.policy x.policy p)
    (and_from (eqb y.direction x.direction) (eqb y.holder x.holder && eqb y.role x.role) (eq-eqb y.direction x.direction d)
    (and_from (eqb y.holder x.holder) (eqb y.role x.role) (eq-eqb y.holder x.holder h) (eq-eqb y.role x.role r)))

granted_at : (x : GrantRow) (grants : List GrantRow) (k : ℕ) → k < length grants → get_or grants k x ≡ x → granted grants x ≡ true
granted_at x [] k h e = absurd (omega arith)
granted_at x (g ∷ gs) zero h e = or_left (is_grant x g) (list_any (is_grant x) gs) (is_itself x g e)
granted_at x (g ∷ gs) (suc k) h e = or_right (is_grant x g) (list_any (is_grant x) gs) (granted_at x gs k (omega arith) e)

granted_passes : (grants : List GrantRow) (x : GrantRow) → Contains grants x → granted grants x ≡ true
granted_passes grants x w = granted_at x grants w.0 w.1 w.2

module _ {count top : ℕ} {below : ℕ → ℕ → Bool} (law : Lawful count top below) (p : Plan) (s : Standing) where
  entry : (v : Verb) → EntryAsks below p s v → entry_passes below p s v ≡ true
  entry (verb.Fork other) w = refl
  entry (verb.Go location roles) w =
      some_holds (λ q. SetBelow below (least_of p q) roles) (λ q. set_below below (least_of p q) roles) (λ q. set_passes law (least_of p q) roles) (goal_of p s location) w
  entry (verb.Run path) w = refl
  entry (verb.Read path row) w = refl
  entry (verb.Change path row content) w = refl
  entry (verb.Enable path role) w = refl
  entry (verb.Disable path role) w = refl

  slots : (v : Verb) → SlotsAsk p s v → slots_pass p s v ≡ true
  slots (verb.Fork other) w = refl
  slots (verb.Go location roles) w = w
  slots (verb.Run path) w = w
  slots (verb.Read path row) w = w
  slots (verb.Change path row content) w = and_from (is_some (last_of p s path)) (content_fits p (slots_after p s row) content) w.0 (contents.fits_pass p (slots_after p s row) content w.1)
  slots (verb.Enable path role) w = w
  slots (verb.Disable path role) w = w

  path_kept : (v : Verb) → PathAsks below p s v → path_passes below p s v ≡ true
  path_kept v w = some_holds (λ last. SetBelow below last s.roles) (λ last. set_below below last s.roles) (λ last. set_passes law last s.roles) (used_set p s v) w

  opens : (o : Option Pattern) → Open below s.roles o → opens_pattern below s.roles o ≡ true
  opens None w = refl
  opens (Some (pattern.Number slot)) w = refl
  opens (Some (pattern.Script slot policy)) w = refl
  opens (Some (pattern.Pointer slot policy last)) w = refl
  opens (Some (pattern.Tree slot policy topmost all)) w = set_passes law all s.roles w

  patterns : (v : Verb) → PatternAsks below p s v → pattern_passes below p s v ≡ true
  patterns (verb.Fork other) w = refl
  patterns (verb.Go location roles) w = refl
  patterns (verb.Run path) w = refl
  patterns (verb.Read path row) w = opens (pattern_at p.patterns row) w
  patterns (verb.Change path row content) w = opens (pattern_at p.patterns row) w
  patterns (verb.Enable path role) w = refl
  patterns (verb.Disable path role) w = refl

  pasted : (v : Verb) → ContentAsks below p s v → content_passes below p s v ≡ true
  pasted (verb.Fork other) w = refl
  pasted (verb.Go location roles) w = refl
  pasted (verb.Run path) w = refl
  pasted (verb.Read path row) w = refl
  pasted (verb.Change path row content) w =
      some_holds (λ last. ContentObeys below p s.policy last (slots_after p s row) content) (λ last. content_obeys below p s.policy last (slots_after p s row) content)
      (λ last. contents.content_passes law p s.policy last (slots_after p s row) content) (last_of p s path) w
  pasted (verb.Enable path role) w = refl
  pasted (verb.Disable path role) w = refl

  grants : (v : Verb) → GrantAsks p s v → grant_passes p s v ≡ true
  grants (verb.Fork other) w = refl
  grants (verb.Go location roles) w = refl
  grants (verb.Run path) w = refl
  grants (verb.Read path row) w = refl
  grants (verb.Change path row content) w = refl
  grants (verb.Enable path role) w = granted_passes p.grants (wanted s direction.Enable role) w
  grants (verb.Disable path role) w = granted_passes p.grants (wanted s direction.Disable role) w

  enabling : (v : Verb) → EnablingAsks below p s v → enabling_passes below p s v ≡ true
  enabling (verb.Fork other) w = refl
  enabling (verb.Go location roles) w = refl
  enabling (verb.Run path) w = refl
  enabling (verb.Read path row) w = refl
  enabling (verb.Change path row content) w = refl
  enabling (verb.Enable path role) w = some_holds (λ last. SomeBelow below last role) (λ last. some_below below last role) (λ last. some_passes law last role) (last_of p s path) w
  enabling (verb.Disable path role) w = refl

  pub command_quiet : (v : Verb) → ((r : CommandRule) → Asks below p s v r) → broken below p s v ≡ None
  unfolding broken
  command_quiet v a =
      cond-true (entry_passes below p s v) _ _ (entry v (a rule.Entry))
      ∙ (cond-true (slots_pass p s v) _ _ (slots v (a rule.Slots))
      ∙ (cond-true (path_passes below p s v) _ _ (path_kept v (a rule.Path))
      ∙ (cond-true (pattern_passes below p s v) _ _ (patterns v (a rule.Pattern))
      ∙ (cond-true (content_passes below p s v) _ _ (pasted v (a rule.Content))
      ∙ (cond-true (grant_passes p s v) _ _ (grants v (a rule.Grant))
      ∙ cond-true (enabling_passes below p s v) _ _ (enabling v (a rule.Enabling)))))))
