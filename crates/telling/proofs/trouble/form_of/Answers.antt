-- `telling::trouble::form_of` meets its contract: by the trouble.
use Rattle.telling.proofs.trouble.form_of.Goals as goal

pub returns-in-NoCommand : goal.returns-in-NoCommand
returns-in-NoCommand c = rw c.in-NoCommand.is

pub returns-in-DecodeWords : goal.returns-in-DecodeWords
returns-in-DecodeWords c = rw c.in-DecodeWords.is

pub returns-in-EncodeWords : goal.returns-in-EncodeWords
returns-in-EncodeWords c = rw c.in-EncodeWords.is

pub returns-in-LookWords : goal.returns-in-LookWords
returns-in-LookWords c = rw c.in-LookWords.is

pub returns-in-NoFraming : goal.returns-in-NoFraming
returns-in-NoFraming c = rw c.in-NoFraming.is

pub returns-in-OnePacket : goal.returns-in-OnePacket
returns-in-OnePacket c = rw c.in-OnePacket.is

pub returns-in-NoOption : goal.returns-in-NoOption
returns-in-NoOption c = rw c.in-NoOption.is

pub returns-in-Twice : goal.returns-in-Twice
returns-in-Twice c = rw c.in-Twice.is

pub returns-in-NoNumber : goal.returns-in-NoNumber
returns-in-NoNumber c = rw c.in-NoNumber.is

pub returns-in-ManyRecords : goal.returns-in-ManyRecords
returns-in-ManyRecords c = rw c.in-ManyRecords.is

pub returns-in-NoName : goal.returns-in-NoName
returns-in-NoName c = rw c.in-NoName.is

pub returns-in-LongName : goal.returns-in-LongName
returns-in-LongName c = rw c.in-LongName.is

pub returns-in-NoFile : goal.returns-in-NoFile
returns-in-NoFile c = rw c.in-NoFile.is

pub returns-in-OneFile : goal.returns-in-OneFile
returns-in-OneFile c = rw c.in-OneFile.is

pub returns-in-TooLarge : goal.returns-in-TooLarge
returns-in-TooLarge c = rw c.in-TooLarge.is

pub returns-in-NoTable : goal.returns-in-NoTable
returns-in-NoTable c = rw c.in-NoTable.is

pub returns-in-IndexWords : goal.returns-in-IndexWords
returns-in-IndexWords c = rw c.in-IndexWords.is

pub returns-in-CheckWords : goal.returns-in-CheckWords
returns-in-CheckWords c = rw c.in-CheckWords.is

pub returns-in-CueWords : goal.returns-in-CueWords
returns-in-CueWords c = rw c.in-CueWords.is

pub returns-in-Shorter : goal.returns-in-Shorter
returns-in-Shorter c = rw c.in-Shorter.is

pub returns-in-NoReplace : goal.returns-in-NoReplace
returns-in-NoReplace c = rw c.in-NoReplace.is

pub returns-in-IndexLength : goal.returns-in-IndexLength
returns-in-IndexLength c = rw c.in-IndexLength.is

pub returns-in-IndexFront : goal.returns-in-IndexFront
returns-in-IndexFront c = rw c.in-IndexFront.is

pub returns-in-TableLength : goal.returns-in-TableLength
returns-in-TableLength c = rw c.in-TableLength.is

pub returns-in-TableFront : goal.returns-in-TableFront
returns-in-TableFront c = rw c.in-TableFront.is

pub returns-in-Exists : goal.returns-in-Exists
returns-in-Exists c = rw c.in-Exists.is

pub returns-in-TwoNames : goal.returns-in-TwoNames
returns-in-TwoNames c = rw c.in-TwoNames.is

pub returns-in-TimeWords : goal.returns-in-TimeWords
returns-in-TimeWords c = rw c.in-TimeWords.is

pub returns-in-NoRule : goal.returns-in-NoRule
returns-in-NoRule c = rw c.in-NoRule.is

pub returns-in-NoTime : goal.returns-in-NoTime
returns-in-NoTime c = rw c.in-NoTime.is

pub returns-in-ShiftWords : goal.returns-in-ShiftWords
returns-in-ShiftWords c = rw c.in-ShiftWords.is

pub returns-in-NoAmount : goal.returns-in-NoAmount
returns-in-NoAmount c = rw c.in-NoAmount.is
