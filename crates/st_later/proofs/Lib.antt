mod Extending
