-- A typed command keeps each rule, and goes on typed.
use Rattle.std.proofs.Common.{◌≡◌, ℕ, ◌<◌, Bool, Some, None, Option, Contains, IfSome, IsSome, is_some, sym, refl, ap, ◌∙◌, subst, arith}
use Rattle.order.specs.RoleSets.{SomeBelow, SetBelow}
use Rattle.layout.specs.Network.{Plan}
use Rattle.meaning.specs.declared.contents.Content.{Content}
use Rattle.meaning.specs.declared.verbs.Operand.{Operand}
use Rattle.meaning.specs.declared.verbs.Verb.{Verb}
use Rattle.meaning.specs.declared.verbs.Verb.TheVariants as verb
use Rattle.slots.specs.Slots.{pattern_at}
use Rattle.meaning.specs.declared.directions.Direction.TheVariants as direction
use Rattle.pasting.specs.Words.{least_of, ContentFits, ContentObeys}
use Rattle.commands.specs.declared.standing.Standing.{Standing}
use Rattle.commands.specs.declared.rule.CommandRule.{CommandRule}
use Rattle.commands.specs.declared.rule.CommandRule.TheVariants as rule
use Rattle.commands.specs.Rules.{goal_of, last_of, slots_after, Open, wanted, Asks}
use Rattle.typing.specs.Flow.{command_at, verb_at, other_of, policy_or, standing_after}
use Rattle.typing.specs.Typing.{Typed}
use Rattle.typing.specs.TypingLaws.{GoKeeps, RunKeeps, ReadKeeps, ChangeKeeps, EnableKeeps, DisableKeeps}
use Rattle.typing.specs.Typing.Typed.{nil, fork, go, run, read, change, enable, disable}

-- ---- what there is

the_some : {P : ℕ → Type 0} (o : Option ℕ) → IsSome o → IfSome o P → (x : ℕ) × (o ≡ Some x) × P x
the_some None h w = absurd (grind arith)
the_some (Some x) h w = (x, refl, w)

the_both : {P Q : ℕ → Type 0} (o : Option ℕ) → IsSome o → IfSome o P → IfSome o Q → (x : ℕ) × (o ≡ Some x) × P x × Q x
the_both None h v w = absurd (grind arith)
the_both (Some x) h v w = (x, refl, v, w)

if_some : (P : ℕ → Type 0) (o : Option ℕ) (x : ℕ) → o ≡ Some x → P x → IfSome o P
if_some P o x e w = subst (λ (q : Option ℕ). IfSome q P) (sym e) w

is_there : (o : Option ℕ) (x : ℕ) → o ≡ Some x → IsSome o
is_there o x e = ap is_some e

same_some : {X : Type 0} (o : Option X) (x y : X) → o ≡ Some x → o ≡ Some y → x ≡ y
same_some o x y e d = cc

-- ---- from the rules and what follows to the command

module _ (below : ℕ → ℕ → Bool) (p : Plan) where
  entered : (s : Standing) (c : ℕ) (location : Operand) (roles : ℕ) → verb_at p c ≡ Some (verb.Go location roles) → (o : Option ℕ) → goal_of p s location ≡ o → IsSome o
      → IfSome o (λ policy. SetBelow below (least_of p policy) roles)
      → Typed below p (record { policy = policy_or s.policy o; roles = roles; slots = s.slots }) (command_at p c).next → Typed below p s c
  entered s c location roles e None d h w n = absurd (grind arith)
  entered s c location roles e (Some policy) d h w n = go location roles policy e d w n

  pub typed_from : (s : Standing) (c : ℕ) (v : Verb) → verb_at p c ≡ Some v → ((r : CommandRule) → Asks below p s v r)
      → Typed below p (standing_after p s v) (command_at p c).next → Typed below p s (other_of v) → Typed below p s c
  typed_from s c (verb.Fork other) e a n o = fork other e n o
  typed_from s c (verb.Go location roles) e a n o = entered s c location roles e (goal_of p s location) refl (a rule.Slots) (a rule.Entry) n
  typed_from s c (verb.Run path) e a n o = let w = the_some (last_of p s path) (a rule.Slots) (a rule.Path) in run path w.0 e w.1 w.2 n
  typed_from s c (verb.Read path row) e a n o = let w = the_some (last_of p s path) (a rule.Slots) (a rule.Path) in read path row w.0 e w.1 w.2 (a rule.Pattern) n
  typed_from s c (verb.Change path row content) e a n o =
      let w = the_both (last_of p s path) (a rule.Slots).0 (a rule.Path) (a rule.Content) in
      change path row w.0 content e w.1 (a rule.Slots).1 w.2 (a rule.Pattern) w.3 n
  typed_from s c (verb.Enable path role) e a n o =
      let w = the_both (last_of p s path) (a rule.Slots) (a rule.Path) (a rule.Enabling) in
      enable path role w.0 e w.1 w.2 (a rule.Grant) w.3 n
  typed_from s c (verb.Disable path role) e a n o =
      let w = the_some (last_of p s path) (a rule.Slots) (a rule.Path) in
      disable path role w.0 e w.1 w.2 (a rule.Grant) n

  -- ---- and back

  -- what a typed command that means this verb keeps, and how it goes on
  pub record Parts (s : Standing) (c : ℕ) (v : Verb) : Type 0 where
    pub asks : (r : CommandRule) → Asks below p s v r
    pub next : Typed below p (standing_after p s v) (command_at p c).next
    pub other : Typed below p s (other_of v)

  asks_fork : (s : Standing) (other : ℕ) (r : CommandRule) → Asks below p s (verb.Fork other) r
  asks_fork s other rule.Entry = tt
  asks_fork s other r = tt

  asks_go : (s : Standing) (location : Operand) (roles policy : ℕ) → goal_of p s location ≡ Some policy → SetBelow below (least_of p policy) roles → (r : CommandRule) → Asks below p s (verb.Go location roles) r
  asks_go s location roles policy d w rule.Entry = if_some (λ q. SetBelow below (least_of p q) roles) (goal_of p s location) policy d w
  asks_go s location roles policy d w rule.Slots = is_there (goal_of p s location) policy d
  asks_go s location roles policy d w r = tt

  module _ (s : Standing) (path : Operand) (last : ℕ) (l : last_of p s path ≡ Some last) (w : SetBelow below last s.roles) where
    path_kept : IfSome (last_of p s path) (λ last. SetBelow below last s.roles)
    path_kept = if_some (λ last. SetBelow below last s.roles) (last_of p s path) last l w

    asks_run : (r : CommandRule) → Asks below p s (verb.Run path) r
    asks_run rule.Slots = is_there (last_of p s path) last l
    asks_run rule.Path = path_kept
    asks_run r = tt

    asks_read : (row : ℕ) → Open below s.roles (pattern_at p.patterns row) → (r : CommandRule) → Asks below p s (verb.Read path row) r
    asks_read row k rule.Slots = is_there (last_of p s path) last l
    asks_read row k rule.Path = path_kept
    asks_read row k rule.Pattern = k
    asks_read row k r = tt

    asks_change : (row : ℕ) (content : Content) → ContentFits p (slots_after p s row) content → Open below s.roles (pattern_at p.patterns row)
        → ContentObeys below p s.policy last (slots_after p s row) content → (r : CommandRule) → Asks below p s (verb.Change path row content) r
    asks_change row content f k b rule.Slots = (is_there (last_of p s path) last l, f)
    asks_change row content f k b rule.Path = path_kept
    asks_change row content f k b rule.Pattern = k
    asks_change row content f k b rule.Content = if_some (λ last. ContentObeys below p s.policy last (slots_after p s row) content) (last_of p s path) last l b
    asks_change row content f k b r = tt

    asks_enable : (role : ℕ) → Contains p.grants (wanted s direction.Enable role) → SomeBelow below last role → (r : CommandRule) → Asks below p s (verb.Enable path role) r
    asks_enable role g b rule.Slots = is_there (last_of p s path) last l
    asks_enable role g b rule.Path = path_kept
    asks_enable role g b rule.Grant = g
    asks_enable role g b rule.Enabling = if_some (λ last. SomeBelow below last role) (last_of p s path) last l b
    asks_enable role g b r = tt

    asks_disable : (role : ℕ) → Contains p.grants (wanted s direction.Disable role) → (r : CommandRule) → Asks below p s (verb.Disable path role) r
    asks_disable role g rule.Slots = is_there (last_of p s path) last l
    asks_disable role g rule.Path = path_kept
    asks_disable role g rule.Grant = g
    asks_disable role g r = tt

  no_verb : (v : Verb) → ◌≡◌ {A = Option Verb} None (Some v) → ⊥
  no_verb v e = absurd (grind arith)

  as_meant : (s : Standing) (c : ℕ) (v u : Verb) → verb_at p c ≡ Some u → verb_at p c ≡ Some v → Parts s c u → Parts s c v
  as_meant s c v u e d w = subst (Parts s c) (same_some (verb_at p c) u v e d) w

  entered_typed : (s : Standing) (location : Operand) (roles policy c : ℕ) → goal_of p s location ≡ Some policy
      → Typed below p (record { policy = policy; roles = roles; slots = s.slots }) c → Typed below p (standing_after p s (verb.Go location roles)) c
  entered_typed s location roles policy c d n =
      subst (λ (o : Option ℕ). Typed below p (record { policy = policy_or s.policy o; roles = roles; slots = s.slots }) c) (sym d) n

  pub parts : {s : Standing} {c : ℕ} → Typed below p s c → (v : Verb) → verb_at p c ≡ Some v → Parts s c v
  parts {s = s} {c = c} (nil z) v d = absurd (no_verb v (sym (ap (verb_at p) z) ∙ d))
  parts {s = s} {c = c} (fork other e n o) v d = as_meant s c v (verb.Fork other) e d (record { asks = asks_fork s other; next = n; other = o })
  parts {s = s} {c = c} (go location roles policy e g w n) v d =
      as_meant s c v (verb.Go location roles) e d
      (record { asks = asks_go s location roles policy g w; next = entered_typed s location roles policy (command_at p c).next g n; other = nil refl })
  parts {s = s} {c = c} (run path last e l w n) v d = as_meant s c v (verb.Run path) e d (record { asks = asks_run s path last l w; next = n; other = nil refl })
  parts {s = s} {c = c} (read path row last e l w k n) v d = as_meant s c v (verb.Read path row) e d (record { asks = asks_read s path last l w row k; next = n; other = nil refl })
  parts {s = s} {c = c} (change path row last content e l f w k b n) v d =
      as_meant s c v (verb.Change path row content) e d (record { asks = asks_change s path last l w row content f k b; next = n; other = nil refl })
  parts {s = s} {c = c} (enable path role last e l w g b n) v d =
      as_meant s c v (verb.Enable path role) e d (record { asks = asks_enable s path last l w role g b; next = n; other = nil refl })
  parts {s = s} {c = c} (disable path role last e l w g n) v d =
      as_meant s c v (verb.Disable path role) e d (record { asks = asks_disable s path last l w role g; next = n; other = nil refl })

  -- ---- verb by verb

  pub at_go : (s : Standing) (c : ℕ) (location : Operand) (roles : ℕ) → Typed below p s c → verb_at p c ≡ Some (verb.Go location roles) → GoKeeps below p s c location roles
  at_go s c location roles w e =
      let k = parts w (verb.Go location roles) e in
      let t = the_some (goal_of p s location) (k.asks rule.Slots) (k.asks rule.Entry) in
      let N : Option ℕ → Type 0 = λ o. Typed below p (record { policy = policy_or s.policy o; roles = roles; slots = s.slots }) (command_at p c).next in
      record { policy = t.0; there = t.1; least = t.2; next = subst N t.1 k.next }

  pub at_run : (s : Standing) (c : ℕ) (path : Operand) → Typed below p s c → verb_at p c ≡ Some (verb.Run path) → RunKeeps below p s c path
  at_run s c path w e =
      let k = parts w (verb.Run path) e in
      let t = the_some (last_of p s path) (k.asks rule.Slots) (k.asks rule.Path) in
      record { last = t.0; there = t.1; open_path = t.2; next = k.next }

  pub at_read : (s : Standing) (c : ℕ) (path : Operand) (row : ℕ) → Typed below p s c → verb_at p c ≡ Some (verb.Read path row) → ReadKeeps below p s c path row
  at_read s c path row w e =
      let k = parts w (verb.Read path row) e in
      let t = the_some (last_of p s path) (k.asks rule.Slots) (k.asks rule.Path) in
      record { last = t.0; there = t.1; open_path = t.2; open_tree = k.asks rule.Pattern; next = k.next }

  pub at_change : (s : Standing) (c : ℕ) (path : Operand) (row : ℕ) (content : Content) → Typed below p s c → verb_at p c ≡ Some (verb.Change path row content)
      → ChangeKeeps below p s c path row content
  at_change s c path row content w e =
      let k = parts w (verb.Change path row content) e in
      let t = the_both (last_of p s path) (k.asks rule.Slots).0 (k.asks rule.Path) (k.asks rule.Content) in
      record { last = t.0; there = t.1; fits = (k.asks rule.Slots).1; open_path = t.2; open_tree = k.asks rule.Pattern; obeys = t.3; next = k.next }

  pub at_enable : (s : Standing) (c : ℕ) (path : Operand) (role : ℕ) → Typed below p s c → verb_at p c ≡ Some (verb.Enable path role) → EnableKeeps below p s c path role
  at_enable s c path role w e =
      let k = parts w (verb.Enable path role) e in
      let t = the_both (last_of p s path) (k.asks rule.Slots) (k.asks rule.Path) (k.asks rule.Enabling) in
      record { last = t.0; there = t.1; open_path = t.2; granted = k.asks rule.Grant; under = t.3; next = k.next }

  pub at_disable : (s : Standing) (c : ℕ) (path : Operand) (role : ℕ) → Typed below p s c → verb_at p c ≡ Some (verb.Disable path role) → DisableKeeps below p s c path role
  at_disable s c path role w e =
      let k = parts w (verb.Disable path role) e in
      let t = the_some (last_of p s path) (k.asks rule.Slots) (k.asks rule.Path) in
      record { last = t.0; there = t.1; open_path = t.2; granted = k.asks rule.Grant; next = k.next }

  pub meant : (s : Standing) (c : ℕ) → Typed below p s c → 0 < c → IsSome (verb_at p c)
  meant s c (nil z) h = absurd (omega (arith, z))
  meant s c (fork other e n o) h = ap is_some e
  meant s c (go location roles policy e g w n) h = ap is_some e
  meant s c (run path last e l w n) h = ap is_some e
  meant s c (read path row last e l w k n) h = ap is_some e
  meant s c (change path row last content e l f w k b n) h = ap is_some e
  meant s c (enable path role last e l w g b n) h = ap is_some e
  meant s c (disable path role last e l w g n) h = ap is_some e
