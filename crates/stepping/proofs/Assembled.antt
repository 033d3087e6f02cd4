-- What is left, put together.
use Rattle.std.proofs.Common.{◌≡◌, ℕ, Bool, List, [], ◌++◌, get_or, refl, sym, subst, ap, ◌∙◌, append-nil, append_assoc}
use Rattle.layout.specs.declared.memory.RunningRow.{RunningRow}
use Rattle.layout.specs.Network.{TreeLines, Network}
use Rattle.rooms.specs.declared.scratch.Scratch.{Scratch}
use Rattle.rooms.specs.Rooms.{scratch_of}
use Rattle.rooms.specs.Joining.{with_tree}
use Rattle.rooms.specs.Leaving.{begun, without}
use Rattle.successors.specs.Successors.{with_jobs, with_copies}
use Rattle.meaning.specs.declared.verbs.Operand.{Operand}
use Rattle.meaning.specs.declared.verbs.Verb.{Verb}
use Rattle.meaning.specs.declared.verbs.Verb.TheVariants as verb
use Rattle.reduction.specs.Effects.{Effect, goes_on}
use Rattle.reduction.specs.Steps.{Reduces, next_of, moved}
use Rattle.reduction.specs.Values.{tree_of, named}
use Rattle.stepping.specs.Reduced.{Leaves, reduced}

module _ (n : Network) (place location : ℕ) (s : Scratch) where
  -- successors, where the tree stays
  pub left_one : (xs : List RunningRow) → s ≡ scratch_of (with_jobs (begun n place location) xs)
      → s ≡ scratch_of (record { running = without place n.running ++ xs; shelf = n.shelf ++ []; tree = get_or n.trees location [] })
  unfolding with_jobs
  left_one xs e = e ∙ ap (λ trees. scratch_of (record { running = without place n.running ++ xs; shelf = trees; tree = get_or n.trees location [] })) (sym (append-nil n.shelf))

  pub left_two : (xs ys : List RunningRow) → s ≡ scratch_of (with_jobs (with_jobs (begun n place location) xs) ys)
      → s ≡ scratch_of (record { running = without place n.running ++ (xs ++ ys); shelf = n.shelf ++ []; tree = get_or n.trees location [] })
  unfolding with_jobs
  left_two xs ys e =
      let jobs : (without place n.running ++ xs) ++ ys ≡ without place n.running ++ (xs ++ ys) = append_assoc (without place n.running) xs ys in
      let trees : n.shelf ≡ n.shelf ++ [] = sym (append-nil n.shelf) in
      e ∙ (λ i. scratch_of (record { running = jobs i; shelf = trees i; tree = get_or n.trees location [] }))

  -- successors, and another tree
  pub left_tree : (after : TreeLines) (xs : List RunningRow) → s ≡ scratch_of (with_jobs (with_tree (begun n place location) after) xs)
      → s ≡ scratch_of (record { running = without place n.running ++ xs; shelf = n.shelf ++ []; tree = after })
  unfolding with_jobs
  left_tree after xs e = e ∙ ap (λ trees. scratch_of (record { running = without place n.running ++ xs; shelf = trees; tree = after })) (sym (append-nil n.shelf))

  -- successors and copies
  pub left_copies : (xs : List RunningRow) (copies : List TreeLines) → s ≡ scratch_of (with_copies (begun n place location) xs copies)
      → s ≡ scratch_of (record { running = without place n.running ++ xs; shelf = n.shelf ++ copies; tree = get_or n.trees location [] })
  unfolding with_copies
  left_copies xs copies e = e

-- ---- what a verb brings about

module _ (below : ℕ → ℕ → Bool) (n : Network) (r : RunningRow) (place : ℕ) where
  abbrev pub Brings : Verb → ℕ → Scratch → Type 0
  Brings v found s = (e : Effect) × Reduces below n r v e × Leaves n place e found s

  pub forked : (other : ℕ) (s : Scratch) → s ≡ scratch_of (with_jobs (with_jobs (begun n place r.location) (goes_on r (next_of n r))) (goes_on r other)) → Brings (verb.Fork other) 0 s
  forked other s e = (
    record { found = 0; jobs = goes_on r (next_of n r) ++ goes_on r other; copies = []; tree = tree_of n r },
    refl,
    record { count = refl; left = left_two n place r.location s (goes_on r (next_of n r)) (goes_on r other) e },
  )

  pub gone : (location : Operand) (roles : ℕ) (s : Scratch) → s ≡ scratch_of (with_jobs (begun n place r.location) (goes_on (moved r (named r.slots location) roles) (next_of n r)))
      → Brings (verb.Go location roles) 0 s
  gone location roles s e =
      let jobs = goes_on (moved r (named r.slots location) roles) (next_of n r) in
      (record { found = 0; jobs = jobs; copies = []; tree = tree_of n r }, refl, record { count = refl; left = left_one n place r.location s jobs e })

  -- the verb by another name
  pub by_verb : (v w : Verb) (found : ℕ) (s : Scratch) → w ≡ v → Brings v found s → Brings w found s
  by_verb v w found s same brings = subst (λ (x : Verb). Brings x found s) (sym same) brings

  pub as_reduced : (v : Verb) (found : ℕ) (s : Scratch) → Brings v found s → (e : Effect) × Reduces below n r v e × (record { found = found; scratch = s } ≡ reduced n place e)
  as_reduced v found s brings =
      let counts = brings.2.count in
      let leaves = brings.2.left in
      (brings.0, brings.1, λ i. record { found = counts i; scratch = leaves i })
