-- the lines of what a replica holds, knows and tells, each with its line feed
use Rattle.std.specs.Prelude.{ℕ, List, ◌++◌, codes}
use Rattle.std.specs.List.{concat, flat_map}
use Rattle.std.specs.Prelude.{[], ◌∷◌}
use Rattle.std.specs.Fmt.{decimal}
use Rattle.mr_version.specs.Name.{Name, name_text}
use Rattle.mr_concise.specs.Fragments.{ConciseFragment, knowledge_text}
use Rattle.mr_feed.specs.declared.entry.Entry.{Entry}
use Rattle.mr_madewith.specs.Revision.{Rev}
use Rattle.mr_script.specs.Answer.{entry_text}

-- each version after a space
abbrev pub spaced_versions : List Rev → List ℕ
spaced_versions heads = flat_map (λ r. codes " " ++ name_text r.version) heads

-- `heads R:` and the versions
abbrev pub heads_text : ℕ → List Rev → List ℕ
heads_text replica heads = codes "heads " ++ decimal replica ++ codes ":" ++ spaced_versions heads ++ codes "\n"

-- `pushouts R:` and the versions
abbrev pub push_outs_text : ℕ → List Rev → List ℕ
push_outs_text replica push_outs = codes "pushouts " ++ decimal replica ++ codes ":" ++ spaced_versions push_outs ++ codes "\n"

-- each name of a version or an item after a space
abbrev pub spaced_names : List Name → List ℕ
spaced_names names = flat_map (λ v. codes " " ++ name_text v) names

-- `conflicts R:` and the items
abbrev pub conflicts_text : ℕ → List Name → List ℕ
conflicts_text replica items = codes "conflicts " ++ decimal replica ++ codes ":" ++ spaced_names items ++ codes "\n"

-- `feed R:` and each entry after a space
abbrev pub feed_text : ℕ → List Entry → List ℕ
feed_text replica entries =
    codes "feed " ++ decimal replica ++ codes ":" ++ flat_map (λ entry. codes " " ++ entry_text entry) entries ++ codes "\n"

-- `log R: N`
abbrev pub log_text : ℕ → ℕ → List ℕ
log_text replica count = concat (codes "log " ∷ decimal replica ∷ codes ": " ∷ decimal count ∷ codes "\n" ∷ [])

-- `know R: ` and the text of the fragments
abbrev pub know_text : ℕ → List ConciseFragment → List ℕ
know_text replica fragments = concat (codes "know " ∷ decimal replica ∷ codes ": " ∷ knowledge_text fragments ∷ codes "\n" ∷ [])
