-- Each arm by the run of the list that begins where its own does: first the arms of one opcode, then those of several.
use Rattle.std.proofs.Common.{arith}
use borrow.Author.Rules.{rules}
use Rattle.opcode.proofs.Listed.{listed, wide, both, past}
use Rattle.opcode.proofs.class.class_of.Goals as goal

-- that an opcode is not below >10, since no arm from >00 to >0F took it
pub returns-in-16-to-31 : goal.returns-in-16-to-31
returns-in-16-to-31 c =
    let skipped = c.in-16-to-31.in_default-own.rest in
    listed 0x10 _ (past _ _ 0 16 (omega arith) skipped.0.0, search rules, search rules)

-- nor here >EC or >ED
pub returns-in-238-to-243 : goal.returns-in-238-to-243
returns-in-238-to-243 c =
    let skipped = c.in-238-to-243.in_default-own.rest in
    listed 0xEE _ (past _ _ 0xEC 2 (search rules) skipped, search rules, search rules)

pub returns-in-0 : goal.returns-in-0
returns-in-0 = (λ c. listed 0x00 _ (search rules))

pub returns-in-1 : goal.returns-in-1
returns-in-1 = (λ c. listed 0x01 _ (search rules))

pub returns-in-2 : goal.returns-in-2
returns-in-2 = (λ c. listed 0x02 _ (search rules))

pub returns-in-3 : goal.returns-in-3
returns-in-3 = (λ c. listed 0x03 _ (search rules))

pub returns-in-4 : goal.returns-in-4
returns-in-4 = (λ c. listed 0x04 _ (search rules))

pub returns-in-5 : goal.returns-in-5
returns-in-5 = (λ c. listed 0x05 _ (search rules))

pub returns-in-6 : goal.returns-in-6
returns-in-6 = (λ c. listed 0x06 _ (search rules))

pub returns-in-7 : goal.returns-in-7
returns-in-7 = (λ c. listed 0x07 _ (search rules))

pub returns-in-8 : goal.returns-in-8
returns-in-8 = (λ c. listed 0x08 _ (search rules))

pub returns-in-9 : goal.returns-in-9
returns-in-9 = (λ c. listed 0x09 _ (search rules))

pub returns-in-10 : goal.returns-in-10
returns-in-10 = (λ c. listed 0x0A _ (search rules))

pub returns-in-11 : goal.returns-in-11
returns-in-11 = (λ c. listed 0x0B _ (search rules))

pub returns-in-12 : goal.returns-in-12
returns-in-12 = (λ c. listed 0x0C _ (search rules))

pub returns-in-13 : goal.returns-in-13
returns-in-13 = (λ c. listed 0x0D _ (search rules))

pub returns-in-14 : goal.returns-in-14
returns-in-14 = (λ c. listed 0x0E _ (search rules))

pub returns-in-15 : goal.returns-in-15
returns-in-15 = (λ c. listed 0x0F _ (search rules))

pub returns-in-236 : goal.returns-in-236
returns-in-236 = (λ c. listed 0xEC _ (search rules))

pub returns-in-237 : goal.returns-in-237
returns-in-237 = (λ c. listed 0xED _ (search rules))

pub returns-in-32-to-37 : goal.returns-in-32-to-37
returns-in-32-to-37 = (λ c. listed 0x20 _ (search rules))

pub returns-in-38-to-47 : goal.returns-in-38-to-47
returns-in-38-to-47 = (λ c. listed 0x26 _ (search rules))

pub returns-in-48-to-53 : goal.returns-in-48-to-53
returns-in-48-to-53 = (λ c. listed 0x30 _ (search rules))

pub returns-in-54-to-55 : goal.returns-in-54-to-55
returns-in-54-to-55 = (λ c. listed 0x36 _ (search rules))

pub returns-in-56-to-61 : goal.returns-in-56-to-61
returns-in-56-to-61 = (λ c. listed 0x38 _ (search rules))

pub returns-in-62-to-63 : goal.returns-in-62-to-63
returns-in-62-to-63 = (λ c. listed 0x3E _ (search rules))

pub returns-in-64-to-95 : goal.returns-in-64-to-95
returns-in-64-to-95 = (λ c. listed 0x40 _ (search rules))

pub returns-in-96-to-127 : goal.returns-in-96-to-127
returns-in-96-to-127 = (λ c. listed 0x60 _ (search rules))

pub returns-in-128-to-129 : goal.returns-in-128-to-129
returns-in-128-to-129 = (λ c. wide 0x80 _ _ (search rules))

pub returns-in-130-to-131 : goal.returns-in-130-to-131
returns-in-130-to-131 = (λ c. wide 0x82 _ _ (search rules))

pub returns-in-132-to-133 : goal.returns-in-132-to-133
returns-in-132-to-133 = (λ c. wide 0x84 _ _ (search rules))

pub returns-in-134-to-135 : goal.returns-in-134-to-135
returns-in-134-to-135 = (λ c. wide 0x86 _ _ (search rules))

pub returns-in-136-to-137 : goal.returns-in-136-to-137
returns-in-136-to-137 = (λ c. wide 0x88 _ _ (search rules))

pub returns-in-138-to-139 : goal.returns-in-138-to-139
returns-in-138-to-139 = (λ c. wide 0x8A _ _ (search rules))

pub returns-in-140-to-141 : goal.returns-in-140-to-141
returns-in-140-to-141 = (λ c. wide 0x8C _ _ (search rules))

pub returns-in-142-to-143 : goal.returns-in-142-to-143
returns-in-142-to-143 = (λ c. wide 0x8E _ _ (search rules))

pub returns-in-144-to-145 : goal.returns-in-144-to-145
returns-in-144-to-145 = (λ c. wide 0x90 _ _ (search rules))

pub returns-in-146-to-147 : goal.returns-in-146-to-147
returns-in-146-to-147 = (λ c. wide 0x92 _ _ (search rules))

pub returns-in-148-to-149 : goal.returns-in-148-to-149
returns-in-148-to-149 = (λ c. wide 0x94 _ _ (search rules))

pub returns-in-150-to-151 : goal.returns-in-150-to-151
returns-in-150-to-151 = (λ c. wide 0x96 _ _ (search rules))

pub returns-in-152-to-159 : goal.returns-in-152-to-159
returns-in-152-to-159 = (λ c. listed 0x98 _ (search rules))

pub returns-in-160-to-163 : goal.returns-in-160-to-163
returns-in-160-to-163 = (λ c. both 0xA0 _ _ _ (search rules))

pub returns-in-164-to-167 : goal.returns-in-164-to-167
returns-in-164-to-167 = (λ c. both 0xA4 _ _ _ (search rules))

pub returns-in-168-to-171 : goal.returns-in-168-to-171
returns-in-168-to-171 = (λ c. both 0xA8 _ _ _ (search rules))

pub returns-in-172-to-175 : goal.returns-in-172-to-175
returns-in-172-to-175 = (λ c. both 0xAC _ _ _ (search rules))

pub returns-in-176-to-179 : goal.returns-in-176-to-179
returns-in-176-to-179 = (λ c. both 0xB0 _ _ _ (search rules))

pub returns-in-180-to-183 : goal.returns-in-180-to-183
returns-in-180-to-183 = (λ c. both 0xB4 _ _ _ (search rules))

pub returns-in-184-to-187 : goal.returns-in-184-to-187
returns-in-184-to-187 = (λ c. both 0xB8 _ _ _ (search rules))

pub returns-in-188-to-191 : goal.returns-in-188-to-191
returns-in-188-to-191 = (λ c. both 0xBC _ _ _ (search rules))

pub returns-in-192-to-193 : goal.returns-in-192-to-193
returns-in-192-to-193 = (λ c. wide 0xC0 _ _ (search rules))

pub returns-in-194-to-195 : goal.returns-in-194-to-195
returns-in-194-to-195 = (λ c. listed 0xC2 _ (search rules))

pub returns-in-196-to-199 : goal.returns-in-196-to-199
returns-in-196-to-199 = (λ c. both 0xC4 _ _ _ (search rules))

pub returns-in-200-to-203 : goal.returns-in-200-to-203
returns-in-200-to-203 = (λ c. both 0xC8 _ _ _ (search rules))

pub returns-in-204-to-207 : goal.returns-in-204-to-207
returns-in-204-to-207 = (λ c. both 0xCC _ _ _ (search rules))

pub returns-in-208-to-211 : goal.returns-in-208-to-211
returns-in-208-to-211 = (λ c. both 0xD0 _ _ _ (search rules))

pub returns-in-212-to-215 : goal.returns-in-212-to-215
returns-in-212-to-215 = (λ c. both 0xD4 _ _ _ (search rules))

pub returns-in-216-to-219 : goal.returns-in-216-to-219
returns-in-216-to-219 = (λ c. both 0xD8 _ _ _ (search rules))

pub returns-in-220-to-223 : goal.returns-in-220-to-223
returns-in-220-to-223 = (λ c. both 0xDC _ _ _ (search rules))

pub returns-in-224-to-227 : goal.returns-in-224-to-227
returns-in-224-to-227 = (λ c. both 0xE0 _ _ _ (search rules))

pub returns-in-228-to-231 : goal.returns-in-228-to-231
returns-in-228-to-231 = (λ c. both 0xE4 _ _ _ (search rules))

pub returns-in-232-to-235 : goal.returns-in-232-to-235
returns-in-232-to-235 = (λ c. both 0xE8 _ _ _ (search rules))

pub returns-in-244-to-247 : goal.returns-in-244-to-247
returns-in-244-to-247 = (λ c. both 0xF4 _ _ _ (search rules))

pub returns-in-248-to-255 : goal.returns-in-248-to-255
returns-in-248-to-255 = (λ c. listed 0xF8 _ (search rules))
