-- Names every rule once: a theorem that computes says `unfolding every_rule`.
use lib.Count.{ones_in, ones}
use Rattle.rules.specs.Machine.{◌also◌, bit}
use Rattle.rules.specs.Journal.{word, mark_word, note, undo_top, undo, turned, marks}
use Rattle.rules.specs.Rules.{◌>>=◌, spare, perform, exec, after, valued, act_stores, stores, act_sent, sent, sends, need, next_word, peek_word}
use Rattle.rules.specs.Operands.{short_offset, offset, add_index, indexed, through_word, through_byte, pop_cell, through_pad, named, far_cell}
use Rattle.rules.specs.Operands.{any_cell, reached, operand_of, position, screen_byte, to_screen, load_buffer, refresh, standing, value}
use Rattle.rules.specs.Operands.{poke_word, store_value, echo, result, operand_value, immediate, source}
use Rattle.rules.specs.Opcodes.{gram_class, move_class, class_of}
use Rattle.rules.specs.Arithmetic.{above, complement, extended, status_byte, compared, with_condition, tested, sum, carries, overflows, odd_ones, sum_status}
use Rattle.rules.specs.Arithmetic.{shift_count, arithmetic, leftward, rightward, circular, repeated, absolute, inverse, one_effect, two_effect}
use Rattle.rules.specs.Arithmetic.{next_seed, random_of}
use Rattle.rules.specs.Instructions.{set_condition, store_effect, one_rule, two_rule, test_rule, halves, mul_rule, div_overflow, div_results, divided, div_rule}
use Rattle.rules.specs.Instructions.{ex_rule, raise, push_pc, pop_pc, push_rule, jump_in_group, jump_if, branch_rule, long_rule, call_rule, rtn_rule}
use Rattle.rules.specs.Instructions.{rtnc_rule, case_rule, fetch_rule, rand_rule, back_rule, fill, all_rule, move_length, register_cell, ram_target, move_target}
use Rattle.rules.specs.Instructions.{grom_cell, move_source, source_byte, register_one, deliver, move_byte, move_bytes, move_count}
use Rattle.rules.specs.Instructions.{move_rule}
use Rattle.rules.specs.Format.{set_cursor, wrap_show, wrap_skip, show, skip, show_next, text, show_times, repeat_text, cpu_operand, show_cell}
use Rattle.rules.specs.Format.{pad_text, operand_text, go_on, open_block, close_block, repeat_block, block_turn, end_inside, settle_cursor}
use Rattle.rules.specs.Format.{end_outside, end_code, grom_bias, operand_bias, cursor_code, last_row, code_rule, code, codes, fmt_rule}
use Rattle.rules.specs.Coincidence.{difference, along, inside, table_bit, meets, in_table, look_up, granularity, coinc_rule}
use Rattle.rules.specs.Sound.{start_rule, list_byte, send_next, send_bytes, send_block, leap, block, opened, closed, due_block, count_down, tick_rule}
use Rattle.rules.specs.Tasks.{rule_of, plan_of}
use Rattle.rules.specs.Calls.{image_fits, parts_fit, place_fits, take_mark, begin, attempt, fit_step, step, begin_stores, step_stores, tick_sent, tick_output, steps, run, scan}
use Rattle.rules.specs.Calls.{fit_back, step_back, view}
use Rattle.rules.specs.Cards.{passes, every_passes}
use Rattle.rules.specs.Gram.{holds, every_holds, taken_back, back_answers}

unfoldable pub every_rule : Unit {0}
unfolding ◌also◌ bit
    word mark_word note undo_top undo turned marks
    ◌>>=◌ spare perform exec after valued act_stores stores act_sent sent sends need next_word peek_word
    short_offset offset add_index indexed through_word through_byte pop_cell through_pad named far_cell any_cell reached operand_of position screen_byte
    to_screen load_buffer refresh standing value poke_word store_value echo result operand_value immediate source
    gram_class move_class class_of
    above complement extended status_byte compared with_condition tested sum carries overflows ones ones_in odd_ones sum_status shift_count arithmetic leftward rightward
    circular repeated absolute inverse one_effect two_effect next_seed random_of
    set_condition store_effect one_rule two_rule test_rule halves mul_rule div_overflow div_results divided div_rule ex_rule raise push_pc pop_pc push_rule jump_in_group
    jump_if branch_rule long_rule call_rule rtn_rule rtnc_rule case_rule fetch_rule rand_rule back_rule fill all_rule move_length register_cell ram_target move_target
    grom_cell move_source source_byte register_one deliver move_byte move_bytes move_count move_rule
    set_cursor wrap_show wrap_skip show skip show_next text show_times repeat_text cpu_operand show_cell pad_text operand_text go_on open_block close_block
    repeat_block block_turn end_inside settle_cursor end_outside end_code grom_bias operand_bias cursor_code last_row code_rule code codes fmt_rule
    difference along inside table_bit meets in_table look_up granularity coinc_rule
    start_rule list_byte send_next send_bytes send_block leap block opened closed due_block count_down tick_rule
    rule_of plan_of
    image_fits parts_fit place_fits take_mark begin attempt fit_step step begin_stores step_stores tick_sent tick_output steps run scan fit_back step_back view
    passes every_passes holds every_holds taken_back back_answers
every_rule = tt
