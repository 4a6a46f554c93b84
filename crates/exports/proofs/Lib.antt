mod Numbering
