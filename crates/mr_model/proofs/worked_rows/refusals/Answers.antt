use Rattle.std.proofs.Common.{refl, sym, subst, ℕ, ◌<◌, [], inl, inr, arith}
use Rattle.mr_model.proofs.Names.{Ask, Body.End, Covers, Selects, archive, closed_port, first_sync, inbox_asked, now, passed_on, pushed_out_only}
use Rattle.mr_model.proofs.Names.{retired_early, row_setting, two_entries, two_to_tell, ◌•◌}
use Rattle.mr_model.proofs.RefusalsHold.{refused_by, untrue, unfalse, one_not_two, asked, ask_of_one, its_start, start_alone, due_for_asker, first_not_second}
use Rattle.mr_model.proofs.worked_rows.refusals.Goals as goal

pub returns : goal.returns
returns c = record {
  skips_a_counter = refused_by [] refl (λ rule. omega arith);
  answers_another_event = refused_by [] refl (λ rule. rule);
  edits_an_unheld_base = refused_by two_entries refl (λ rule. elim (rule.held (0 • 1) (inl refl)) [ inl a ↦ untrue a | inr b ↦ untrue b ]);
  claims_later_versions = refused_by two_entries refl (λ rule. untrue (rule.claims_known (0 • 1) refl));
  leaves_out_a_due_version = refused_by two_to_tell refl (λ rule. elim (rule.draw.0.none_skipped (0 • 1) (due_for_asker rule.ask rule.opened)) [ inl same ↦ one_not_two same | inr less ↦ untrue less ]);
  shows_before_the_walk_ends = refused_by two_to_tell refl (λ rule. elim rule.draw.walked [ inl none ↦ none (0 • 1) (due_for_asker rule.ask rule.opened) | inr held ↦ start_alone (now row_setting two_to_tell).given refl held ]);
  teaches_before_it_shows = refused_by two_to_tell refl (λ rule. start_alone (now row_setting two_to_tell).given refl rule.draw);
  ends_before_it_shows = refused_by two_to_tell refl (λ rule. start_alone (now row_setting two_to_tell).given refl (rule.draw.after_held (its_start, record { is_given = inl refl; source_is = refl; stream_is = refl }, refl)));
  takes_what_it_knows = refused_by first_sync refl (λ rule. cc);
  takes_after_retirement = refused_by retired_early refl (λ rule. unfalse rule.alive);
  vouches_for_a_push_out = refused_by passed_on refl (λ rule. untrue rule.stored);
  retires_with_push_outs = refused_by pushed_out_only refl (λ rule. unfalse (rule.clean (1 • 1)));
  skips_an_entry = refused_by two_entries refl (λ rule. first_not_second rule.rest rule.next);
  offers_after_close = refused_by closed_port refl (λ rule. unfalse rule.not_closed);
  mixes_items = refused_by two_entries refl (λ rule. one_not_two (sym (rule.one_item (0 • 2) (inr (inl refl)))));
  moves_out_what_is_selected = refused_by two_to_tell refl (λ rule. rule.draw.1 (subst (λ (a : Ask). Selects row_setting (now row_setting two_to_tell) a.target (0 • 1)) (asked ask_of_one rule.ask rule.opened) refl));
  gives_an_index_again = refused_by two_to_tell refl (λ rule. let less : 0 < 0 = rule.index its_start (record { is_given = inl refl; source_is = refl; stream_is = refl }) in absurd (omega arith));
  gives_after_the_end = refused_by first_sync refl (λ rule. rule.open_still (record { source = 0; stream = 1; target = 1; session = 1; index = 4; body = End }) (record { is_given = inl refl; source_is = refl; stream_is = refl }) refl);
  answers_its_own_ask = refused_by two_to_tell refl (λ rule. rule.other refl);
  uses_a_stream_number_again = refused_by two_to_tell refl (λ rule. cc);
  starts_full_without_cover = refused_by inbox_asked refl (λ rule. untrue (subst (λ (a : Ask). Covers row_setting 1 a.target) (sym (asked (record { target = 0; session = 1; claimed = [] }) rule.ask rule.opened)) (rule.draw.covers refl) archive refl));
  takes_for_another = refused_by two_to_tell refl (λ rule. omega arith);
  takes_what_nobody_gave = refused_by two_entries refl (λ rule. rule);
  releases_what_nobody_vouched_for = refused_by passed_on refl (λ rule. rule);
}
